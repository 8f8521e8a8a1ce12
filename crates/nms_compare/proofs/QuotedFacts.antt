-- What is quoted best, read from the board of a tape.
use Rattle.std.proofs.Common.{◌≡◌, ℕ, ap}
use Rattle.nms_quote.specs.Tape.{Tape}
use Rattle.nms_board.specs.Cells.{Board, StandsFor}
use Rattle.nms_board.specs.Shown.{seen_on}
use Rattle.nms_board.proofs.Offered.{seen_stands}
use Rattle.nms_stream.specs.Quoted.{quoted_at, quoted_in}

-- a board shows what its tape does
pub quoted_stands : (board : Board) (tape : Tape) (sym : ℕ) → StandsFor board tape
    → quoted_in (seen_on board sym) ≡ quoted_at board.sizes tape sym
unfolding quoted_at
quoted_stands board tape symbol stands = ap quoted_in (seen_stands board tape symbol stands)
