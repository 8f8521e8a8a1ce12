-- What the code keeps with a board while it goes along a tape: what was last shown of each symbol that is asked for.
use Rattle.std.specs.Prelude.{ℕ, ◌≡◌, ◌<◌, List, length, nat_lt, slice_get, Option, Some, None, if◌then◌else◌}
use Rattle.nms_quote.specs.Roster.{Sizes}
use Rattle.nms_quote.specs.Tape.{Tape}
use Rattle.nms_quote.specs.declared.change.Change.{Change}
use Rattle.nms_quote.specs.declared.change.Change.TheVariants as change
use Rattle.nms_board.specs.Cells.{StandsFor}
use Rattle.nms_stream.specs.Quoted.{quoted_at}
use Rattle.nms_stream.specs.declared.following.Follower.{Follower}
use Rattle.nms_stream.specs.declared.quoted.Quoted.{Quoted}

-- the only symbol that a change speaks of. A withdrawal speaks of all
abbrev pub symbol_of : Change → Option ℕ
symbol_of (change.Quote part sym state bid offer) = Some sym
symbol_of (change.State part sym state) = Some sym
symbol_of (change.Withdraw part) = None
symbol_of (change.Lot sym lot) = Some sym

-- what was last shown of one symbol is what a tape shows of it
abbrev pub ShowsOne : Sizes → List Quoted → Tape → ℕ → Type 0
ShowsOne sizes shown tape sym = slice_get shown sym ≡ Some (quoted_at sizes tape sym)

-- as above, of all symbols, or of the one that is asked for
abbrev pub Shows : Sizes → Option ℕ → List Quoted → Tape → Type 0
Shows sizes None shown tape = (sym : ℕ) → sym < length sizes.lots → ShowsOne sizes shown tape sym
Shows sizes (Some sym) shown tape = ShowsOne sizes shown tape sym

-- the board and what was shown are those of a tape
pub record Follows (sizes : Sizes) (asked : Option ℕ) (follower : Follower) (tape : Tape) : Type 0 where
  pub stands : StandsFor follower.board tape
  pub shows : Shows sizes asked follower.shown.items tape

-- it is of a roster's sizes, with a place for each symbol
pub record IsOf (sizes : Sizes) (follower : Follower) : Type 0 where
  pub same : follower.board.sizes ≡ sizes
  pub places : length follower.shown.items ≡ length sizes.lots

-- the first symbols were shown as a later tape has them, the others as an earlier one
abbrev pub ShowsUpTo : Sizes → Tape → Tape → ℕ → List Quoted → Type 0
ShowsUpTo sizes before now count shown =
    (sym : ℕ) → sym < length sizes.lots → ShowsOne sizes shown (if nat_lt sym count then now else before) sym
