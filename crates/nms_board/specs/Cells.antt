-- What a board holds, and how one change moves it. The tape itself is not stored.
use Rattle.std.specs.Prelude.{ℕ, zero, suc, ◌≡◌, ◌+◌, ◌*◌, ◌<◌, ◌≤◌, ◌&&◌, Bool, List, length, nat_lt, replicate, slice_get, slice_set}
use Rattle.std.specs.Prelude.{Option, Some, None, if◌then◌else◌}
use Rattle.nms_quote.specs.Content.{Content}
use Rattle.nms_quote.specs.Roster.{Sizes, holds}
use Rattle.nms_quote.specs.Tape.{Tape}
use Rattle.nms_quote.specs.declared.TheConstants.{MOST_CHANGES, MOST_SYMBOLS}
use Rattle.nms_board.specs.declared.TheConstants.{MOST_ROWS}
use Rattle.nms_quote.specs.declared.side_quote.Side.{Side}
use Rattle.nms_quote.specs.declared.side_quote.Side.TheVariants.{Bid, Offer}
use Rattle.nms_quote.specs.declared.side_quote.QState.{QState}
use Rattle.nms_quote.specs.declared.change.Change.{Change}
use Rattle.nms_quote.specs.declared.change.Change.TheVariants as change
use Rattle.nms_board.specs.History.{content_at, lot_listed, state_at, receipt_of, same_content}
use Rattle.nms_board.specs.Holding.{Holding}
use Rattle.nms_board.specs.declared.cell.Cell.{Cell}

-- the roster's sizes, each symbol's present round lot, a cell for each participant in each symbol, and how many
-- changes were applied
pub record Board : Type 0 where
  pub sizes : Sizes
  pub lots : List ℕ
  pub cells : List Cell
  pub applied : ℕ

-- the sizes with the present lots instead of the opening lots
abbrev pub present : Board → Sizes
present board = record { parts = board.sizes.parts; lots = board.lots }

-- a board holds no more than a roster has, and a lot and a cell for each place of it
pub record IsInShape (board : Board) : Type 0 where
  pub parts : board.sizes.parts ≤ MOST_ROWS
  pub syms : length board.sizes.lots ≤ MOST_SYMBOLS
  pub lots : length board.lots ≡ length board.sizes.lots
  pub cells : length board.cells ≡ MOST_ROWS * length board.sizes.lots
  pub applied : board.applied ≤ MOST_CHANGES

-- a symbol has MOST_ROWS cells, by participant place
abbrev pub place_of : ℕ → ℕ → ℕ
place_of part sym = MOST_ROWS * sym + part

-- what the tape says of a participant in a symbol
abbrev pub held_of : ℕ → ℕ → Side → Tape → Holding
held_of part sym side tape = record {
  quote = content_at part sym side tape;
  receipt = receipt_of part sym side tape;
}

abbrev pub cell_of : ℕ → ℕ → Tape → Cell
cell_of part sym tape = record {
  state = state_at part sym tape;
  bid = held_of part sym Bid tape;
  offer = held_of part sym Offer tape;
}

-- the board holds what the tape says
pub record StandsFor (board : Board) (tape : Tape) : Type 0 where
  pub applied : board.applied ≡ length tape
  pub narrow : board.sizes.parts ≤ MOST_ROWS
  pub lots : (sym : ℕ) → slice_get board.lots sym ≡ lot_listed board.sizes tape sym
  pub cells : (part sym : ℕ) → part < board.sizes.parts → sym < length board.sizes.lots
      → slice_get board.cells (place_of part sym) ≡ Some (cell_of part sym tape)

-- a board in shape that holds some tape
pub record IsBoard (board : Board) : Type 0 where
  pub shape : IsInShape board
  pub tape : Tape
  pub stands : StandsFor board tape

abbrev pub nothing_held : Holding
nothing_held = record { quote = None; receipt = 0 }

abbrev pub empty_cell : Cell
empty_cell = record { state = None; bid = nothing_held; offer = nothing_held }

-- a board of the empty tape
abbrev pub opening : Sizes → Board
opening sizes = record {
  sizes = sizes;
  lots = sizes.lots;
  cells = replicate (MOST_ROWS * length sizes.lots) empty_cell;
  applied = 0;
}

-- a side after change number n sets its content: the receipt stays if nothing is altered
abbrev pub held_after : ℕ → Option Content → Holding → Holding
held_after n content held = if same_content held.quote content then held else record { quote = content; receipt = n }

abbrev pub quoted : ℕ → QState → Option Content → Option Content → Cell → Cell
quoted n state bid offer cell = record {
  state = Some state;
  bid = held_after n bid cell.bid;
  offer = held_after n offer cell.offer;
}

abbrev pub restated : QState → Cell → Cell
restated state cell = record cell { state = Some state }

abbrev pub withdrawn : ℕ → Cell → Cell
withdrawn n cell = record {
  state = cell.state;
  bid = held_after n None cell.bid;
  offer = held_after n None cell.offer;
}

-- a cell that a change concerns, after the change
abbrev pub altered : ℕ → Change → Cell → Cell
altered n (change.Quote part sym state bid offer) = quoted n state bid offer
altered n (change.State part sym state) = restated state
altered n (change.Withdraw part) = withdrawn n
altered n (change.Lot sym lot) = λ cell. cell

abbrev pub set_if_some : List Cell → ℕ → (Cell → Cell) → Option Cell → List Cell
set_if_some cells i f None = cells
set_if_some cells i f (Some cell) = slice_set cells i (f cell)

-- one cell changed
abbrev pub change_cell : List Cell → ℕ → (Cell → Cell) → List Cell
change_cell cells i f = set_if_some cells i f (slice_get cells i)

-- the participant's cell in each of the first symbols withdrawn
unfoldable pub withdraw_from : ℕ → ℕ → ℕ → List Cell → List Cell
withdraw_from n part zero cells = cells
withdraw_from n part (suc sym) cells = change_cell (withdraw_from n part sym cells) (place_of part sym) (withdrawn n)

abbrev pub cells_after : ℕ → ℕ → List Cell → Change → List Cell
cells_after n syms cells (change.Quote part sym state bid offer) = change_cell cells (place_of part sym) (quoted n state bid offer)
cells_after n syms cells (change.State part sym state) = change_cell cells (place_of part sym) (restated state)
cells_after n syms cells (change.Withdraw part) = withdraw_from n part syms cells
cells_after n syms cells (change.Lot sym lot) = cells

abbrev pub lots_after : List ℕ → Change → List ℕ
lots_after lots (change.Quote part sym state bid offer) = lots
lots_after lots (change.State part sym state) = lots
lots_after lots (change.Withdraw part) = lots
lots_after lots (change.Lot sym lot) = slice_set lots sym lot

-- the board after one more change
abbrev pub after : Board → Change → Board
after board change = record {
  sizes = board.sizes;
  lots = lots_after board.lots change;
  cells = cells_after (board.applied + 1) (length board.sizes.lots) board.cells change;
  applied = board.applied + 1;
}

-- whether the roster holds the change and there is room for its number
abbrev pub takes : Board → Change → Bool
takes board change = holds board.sizes change && nat_lt board.applied MOST_CHANGES
