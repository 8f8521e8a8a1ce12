-- The opening changes of a board: applied to a new board of its roster they show alike. This product's own rule.
use Rattle.std.specs.Prelude.{ℕ, ◌≡◌, ◌≢◌, ◌*◌, ◌<◌, ◌≤◌, true, false, All, List, length, fold, slice_get, Some}
use Rattle.nms_quote.specs.Roster.{Sizes, holds}
use Rattle.nms_quote.specs.declared.change.Change.{Change}
use Rattle.nms_board.specs.Cells.{Board, after, empty_cell, opening, place_of}
use Rattle.nms_board.specs.History.{concerns}
use Rattle.nms_opening.specs.Alike.{ShowAlike}
use Rattle.nms_opening.specs.declared.TheConstants.{MOST_OPENING}

-- a board of those sizes with a symbol as at the opening: its round lot is the opening one, and no participant quoted
pub record HasNothing (start : Board) (sizes : Sizes) (sym : ℕ) : Type 0 where
  pub roster : start.sizes ≡ sizes
  pub lot : slice_get start.lots sym ≡ slice_get sizes.lots sym
  pub cells : (part : ℕ) → part < sizes.parts → slice_get start.cells (place_of part sym) ≡ Some empty_cell

-- opening changes of one symbol: only of that symbol, held by the roster, at most MOST_OPENING. A board with the symbol
-- as at the opening shows alike after them
pub record OpensSymbol (board : Board) (sym : ℕ) (changes : List Change) : Type 0 where
  pub own : (other : ℕ) → other ≢ sym → All (λ change. concerns other change ≡ false) changes
  pub held : All (λ change. holds board.sizes change ≡ true) changes
  pub few : length changes ≤ MOST_OPENING
  pub alike : (start : Board) → HasNothing start board.sizes sym → ShowAlike board (fold after start changes) sym

-- opening changes of a board: held by its roster, at most MOST_OPENING a symbol. A new board of the roster shows alike
-- after them, for every symbol
pub record Opens (board : Board) (changes : List Change) : Type 0 where
  pub held : All (λ change. holds board.sizes change ≡ true) changes
  pub few : length changes ≤ MOST_OPENING * length board.sizes.lots
  pub alike : (sym : ℕ) → sym < length board.sizes.lots → ShowAlike board (fold after (opening board.sizes) changes) sym
