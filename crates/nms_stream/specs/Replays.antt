-- A board that goes along a tape. This product's own rule.
use Rattle.std.specs.Prelude.{◌≡◌, ◌+◌, ◌<◌, ◌≤◌, ◌++◌, ◌∷◌, [], length, true}
use Rattle.nms_quote.specs.Roster.{Sizes, holds}
use Rattle.nms_quote.specs.Tape.{Tape, version}
use Rattle.nms_quote.specs.declared.change.Change.{Change}
use Rattle.nms_board.specs.Cells.{Board, StandsFor, after}

-- a board of a roster's sizes that shows the first changes of a tape
pub record IsAt (sizes : Sizes) (tape : Tape) (board : Board) : Type 0 where
  pub same : board.sizes ≡ sizes
  pub within : board.applied ≤ length tape
  pub stands : StandsFor board (version board.applied tape)

-- a board, and what it is after the next change
pub record IsStep (sizes : Sizes) (tape : Tape) (was now : Board) (change : Change) : Type 0 where
  pub before : IsAt sizes tape was
  pub below : was.applied < length tape
  pub held : holds sizes change ≡ true
  pub moved : now ≡ after was change
  pub more : now.applied ≡ was.applied + 1
  pub next : version now.applied tape ≡ version was.applied tape ++ change ∷ []
  pub at : IsAt sizes tape now
