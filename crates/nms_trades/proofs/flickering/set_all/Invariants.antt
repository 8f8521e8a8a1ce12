-- `set_all`: all is found about the executions so far, and the rest is as it was.
use Rattle.std.proofs.Common.{ℕ, ◌≡◌, ◌≤◌, length, slice_get}
use Rattle.nms_stream.specs.Tapes.{sizes_in}
use Rattle.nms_trades.specs.Found.{IsJudged}
use Rattle.nms_trades.specs.Turns.{AreAnsweredBelow}
use Rattle.nms_trades.proofs.flickering.set_all.Given as goal

abbrev pub invariant-loop-place : goal.invariant-loop-place
invariant-loop-place l = record {
  places : length l.findings.items ≡ length l.fn.findings.items;
  done : AreAnsweredBelow (IsJudged (sizes_in l.tape) l.tape.changes.items) l.place l.executions l.findings.items;
  rest : (other : ℕ) → l.place ≤ other → slice_get l.findings.items other ≡ slice_get l.fn.findings.items other;
}
