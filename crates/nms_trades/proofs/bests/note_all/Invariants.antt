-- `note_all`: each symbol so far is noted, and the rest is as it was.
use Rattle.nms_board.specs.Shown.{seen_on}
use Rattle.nms_trades.specs.Bests.{limits_of}
use Rattle.nms_trades.specs.Track.{AreNoted}
use Rattle.nms_trades.proofs.bests.note_all.Given as goal

abbrev pub invariant-loop-place : goal.invariant-loop-place
invariant-loop-place l =
    AreNoted (λ sym. sym) l.board.applied (λ sym. limits_of (seen_on l.board sym)) l.place l.fn.bests.items l.bests.items
