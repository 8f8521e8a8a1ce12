-- A board that takes changes without end. Before its own changes reach their limit it goes over to a second board, which takes the
-- opening changes of one symbol after another, and meanwhile each change of the symbols that it has. This product's own rule.
use Rattle.std.specs.Prelude.{ℕ, ◌≡◌, ◌+◌, ◌*◌, ◌<◌, ◌≤◌, Bool, true, length, nat_lt, Option, Some, None}
use Rattle.nms_quote.specs.declared.change.Change.{Change}
use Rattle.nms_quote.specs.declared.change.Change.TheVariants as change
use Rattle.nms_board.specs.Cells.{Board, after}
use Rattle.nms_opening.specs.Alike.{ShowAlike}
use Rattle.nms_opening.specs.Opening.{HasNothing}
use Rattle.nms_opening.specs.declared.TheConstants.{MOST_OPENING, ROLLS_AT}

-- the board that is shown, and how many changes were taken in addition to those that it counts
pub record Rolled : Type 0 where
  pub board : Board
  pub before : ℕ

-- how many changes were taken
abbrev pub version : Rolled → ℕ
version rolled = rolled.before + rolled.board.applied

-- a second board has the first symbols as the board shows them, and the others as at the opening
pub record IsCarrying (board next : Board) (carried : ℕ) : Type 0 where
  pub roster : board.sizes ≡ next.sizes
  pub alike : (sym : ℕ) → sym < length board.sizes.lots → sym < carried → ShowAlike board next sym
  pub nothing : (sym : ℕ) → sym < length board.sizes.lots → carried ≤ sym → HasNothing next board.sizes sym

-- the board is past where it goes over by at most a change a symbol, and the second board has few
pub record HasRoom (board next : Board) (carried : ℕ) : Type 0 where
  pub board_many : ROLLS_AT ≤ board.applied
  pub board_few : board.applied ≤ ROLLS_AT + carried
  pub next_few : next.applied ≤ (MOST_OPENING + 1) * carried

-- what the second board is for: nothing yet, or the first n symbols
abbrev pub IsReady : Board → Board → Option ℕ → Type 0
IsReady board next None = (board.sizes ≡ next.sizes) × (board.applied < ROLLS_AT)
IsReady board next (Some carried) = IsCarrying board next carried × HasRoom board next carried × (carried < length board.sizes.lots)

-- whether a change goes to the second board too: it is of a symbol that is there, or of all
abbrev pub is_followed : Change → ℕ → Bool
is_followed (change.Quote part sym state bid offer) carried = nat_lt sym carried
is_followed (change.State part sym state) carried = nat_lt sym carried
is_followed (change.Withdraw part) carried = true
is_followed (change.Lot sym lot) carried = nat_lt sym carried

-- one change was taken: the version is one more, and each symbol shows what the board before it would show after the change.
-- Far from the limit it is that board, with its receipts
pub record HasTaken (old new : Rolled) (taken : Change) : Type 0 where
  pub counted : version new ≡ version old + 1
  pub roster : new.board.sizes ≡ old.board.sizes
  pub alike : (sym : ℕ) → sym < length old.board.sizes.lots → ShowAlike (after old.board taken) new.board sym
  pub exact : old.board.applied + 1 < ROLLS_AT → new ≡ record { board = after old.board taken; before = old.before }
