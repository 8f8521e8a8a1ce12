-- `note_parts`: each participant so far is noted in the symbol, and the rest is as it was.
use Rattle.nms_board.specs.Cells.{place_of}
use Rattle.nms_trades.specs.Parts.{part_held}
use Rattle.nms_trades.specs.Track.{AreNoted}
use Rattle.nms_trades.proofs.parts.note_parts.Given as goal

abbrev pub invariant-loop-place : goal.invariant-loop-place
invariant-loop-place l =
    AreNoted (λ part. place_of part l.sym) l.board.applied (λ part. part_held l.board l.sym part) l.place l.fn.tracks.items l.tracks.items
