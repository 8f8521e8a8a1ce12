-- When two boards of one roster show alike for a symbol, whatever number of changes made them. This product's own rule.
use Rattle.std.specs.Prelude.{ℕ, ◌≡◌, ◌<◌, Bool, true, List, map, nat_lt, slice_get, Option}
use Rattle.std.specs.Option.{is_some, unwrap_or}
use Rattle.nms_quote.specs.Content.{Content}
use Rattle.nms_quote.specs.declared.side_quote.Side.{Side}
use Rattle.nms_quote.specs.declared.side_quote.QState.{QState}
use Rattle.nms_board.specs.Cells.{Board, empty_cell, place_of}
use Rattle.nms_board.specs.History.{on_side}
use Rattle.nms_board.specs.Holding.{Holding}
use Rattle.nms_board.specs.Ranking.{ranked}
use Rattle.nms_board.specs.Shown.{rows_held}
use Rattle.nms_board.specs.declared.cell.Cell.{Cell}
use Rattle.nms_board.specs.declared.row.Row.{Row}

-- a participant in a symbol
abbrev pub cell_at : Board → ℕ → ℕ → Cell
cell_at board sym part = unwrap_or (slice_get board.cells (place_of part sym)) empty_cell

-- one of its sides there
abbrev pub held_at : Board → ℕ → Side → ℕ → Holding
held_at board sym side part = on_side side (cell_at board sym part).bid (cell_at board sym part).offer

-- what it quotes on the side, shown or not
abbrev pub content_on : Board → ℕ → Side → ℕ → Option Content
content_on board sym side part = (held_at board sym side part).quote

abbrev pub stands : Board → ℕ → Side → ℕ → Bool
stands board sym side part = is_some (content_on board sym side part)

-- its state there
abbrev pub state_in : Board → ℕ → ℕ → Option QState
state_in board sym part = (cell_at board sym part).state

-- whether a side has an earlier receipt than another
abbrev pub is_earlier : Board → ℕ → Side → ℕ → Side → ℕ → Bool
is_earlier board sym side part along second = nat_lt (held_at board sym side part).receipt (held_at board sym along second).receipt

-- the boards have one roster. In the symbol they have the same round lot, and for each participant the same contents and, if a
-- side is quoted, the same state. The receipts of the quoted sides are in the same order
pub record ShowAlike (one other : Board) (sym : ℕ) : Type 0 where
  pub roster : one.sizes ≡ other.sizes
  pub lot : slice_get one.lots sym ≡ slice_get other.lots sym
  pub contents : (side : Side) (part : ℕ) → part < one.sizes.parts → content_on one sym side part ≡ content_on other sym side part
  pub states : (side : Side) (part : ℕ) → part < one.sizes.parts → stands one sym side part ≡ true
      → state_in one sym part ≡ state_in other sym part
  pub order : (side along : Side) (part second : ℕ) → part < one.sizes.parts → second < one.sizes.parts
      → stands one sym side part ≡ true → stands one sym along second ≡ true
      → is_earlier one sym side part along second ≡ is_earlier other sym side part along second

-- a row without the number of its receipt
abbrev pub unnumbered : Row → Row
unnumbered row = record row { receipt = 0 }

-- what a side shows, in rank order: prices, sizes, participants, protection
abbrev pub shown_in_order : Board → ℕ → Side → List Row
shown_in_order board sym side = map unnumbered (ranked side (rows_held board sym side))

-- both sides of a symbol show the same rows in the same rank order
abbrev pub ShowSame : Board → Board → ℕ → Type 0
ShowSame one other sym = (side : Side) → shown_in_order one sym side ≡ shown_in_order other sym side
