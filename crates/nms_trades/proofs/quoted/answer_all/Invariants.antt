-- `answer_all`: the executions so far have their answers, and the rest is as it was.
use Rattle.std.proofs.Common.{ℕ, ◌≡◌, ◌≤◌, length, slice_get}
use Rattle.nms_stream.specs.Tapes.{sizes_in}
use Rattle.nms_trades.specs.Found.{IsStanding}
use Rattle.nms_trades.specs.Turns.{AreAnsweredBelow}
use Rattle.nms_trades.proofs.quoted.answer_all.Given as goal

abbrev pub invariant-loop-place : goal.invariant-loop-place
invariant-loop-place l = record {
  places : length l.findings.items ≡ length l.fn.findings.items;
  done : AreAnsweredBelow (IsStanding (sizes_in l.tape) l.tape.changes.items) l.place l.executions l.findings.items;
  rest : (other : ℕ) → l.place ≤ other → slice_get l.findings.items other ≡ slice_get l.fn.findings.items other;
}
