-- What a tape says about one symbol, and what a side of that symbol shows. This product's own rule.
use Rattle.std.specs.Prelude.{ℕ, ◌≡◌, ◌==◌, List, [], ◌∷◌, map, Option, Some, None, if◌then◌else◌, slice_get}
use Rattle.std.specs.List.{filter_map}
use Rattle.nms_quote.specs.Roster.{Sizes}
use Rattle.nms_quote.specs.Tape.{Tape}
use Rattle.nms_quote.specs.declared.side_quote.Side.{Side}
use Rattle.nms_quote.specs.declared.change.Change.{Change}
use Rattle.nms_quote.specs.declared.change.Change.TheVariants as change
use Rattle.nms_board.specs.Cells.{Board, StandsFor}
use Rattle.nms_board.specs.Quotation.{quotations}
use Rattle.nms_board.specs.Ranking.{ranked}
use Rattle.nms_board.specs.declared.row.Row.{Row}
use Rattle.nms_opening.specs.Alike.{unnumbered}
use Rattle.nms_opening.specs.Opening.{OpensSymbol}

-- what a change says about a symbol, which has place 0 then; a withdrawal is of every symbol
abbrev pub said_of_symbol : ℕ → Change → Option Change
said_of_symbol sym (change.Quote p s state bid offer) = if s == sym then Some (change.Quote p 0 state bid offer) else None
said_of_symbol sym (change.State p s state) = if s == sym then Some (change.State p 0 state) else None
said_of_symbol sym (change.Withdraw p) = Some (change.Withdraw p)
said_of_symbol sym (change.Lot s lot) = if s == sym then Some (change.Lot 0 lot) else None

-- the changes of a tape that concern a symbol, in order
abbrev pub of_symbol : ℕ → Tape → Tape
of_symbol sym tape = filter_map (said_of_symbol sym) tape

-- what a side of a symbol shows after a tape, in rank order: participants, prices, sizes, protection; not the receipts' numbers
abbrev pub shows : Sizes → Tape → ℕ → Side → List Row
shows sizes tape sym side = map unnumbered (ranked side (quotations sizes tape sym side))

-- a symbol of the complete roster is one of the shard's: with the same participants, and the same opening round lot
pub record IsOfShard (whole shard : Sizes) (sym own : ℕ) : Type 0 where
  pub parts : whole.parts ≡ shard.parts
  pub lot : slice_get whole.lots sym ≡ slice_get shard.lots own

-- a board with only that symbol, which holds what a tape says about it
pub record HoldsSymbol (board : Board) (whole : Sizes) (tape : Tape) (sym : ℕ) : Type 0 where
  pub lot : ℕ
  pub listed : slice_get whole.lots sym ≡ Some lot
  pub roster : board.sizes ≡ record { parts = whole.parts; lots = lot ∷ [] }
  pub stands : StandsFor board (of_symbol sym tape)

-- a cut: the shard begins with opening changes of the symbol, as it was after the changes before
pub record IsCut (whole shard : Sizes) (before opened : Tape) (sym own : ℕ) : Type 0 where
  pub of : IsOfShard whole shard sym own
  pub board : Board
  pub holds : HoldsSymbol board whole before sym
  pub opens : OpensSymbol board 0 (of_symbol own opened)
