-- `note_syms`: the participant is noted in each symbol so far, and the rest is as it was.
use Rattle.nms_board.specs.Cells.{place_of}
use Rattle.nms_trades.specs.Parts.{part_held}
use Rattle.nms_trades.specs.Track.{AreNoted}
use Rattle.nms_trades.proofs.parts.note_syms.Given as goal

abbrev pub invariant-loop-place : goal.invariant-loop-place
invariant-loop-place l =
    AreNoted (λ sym. place_of l.part sym) l.board.applied (λ sym. part_held l.board sym l.part) l.place l.fn.tracks.items l.tracks.items
