-- `mark_traded`: the symbols of the executions so far are marked.
use Rattle.std.proofs.Common.{◌≡◌, ℕ, false, get_or, length, take}
use Rattle.nms_drawing.specs.Drawn.{is_any_own, is_traded}
use Rattle.nms_drawing.proofs.content.mark_traded.Given as goal

abbrev pub invariant-loop-execution : goal.invariant-loop-execution
invariant-loop-execution l = record {
  len : length l.marks ≡ length l.initial.marks;
  marked : (s : ℕ) → get_or l.marks s false ≡ is_traded (take l.execution-index l.executions) s;
  any : l.is_any ≡ is_any_own (take l.execution-index l.executions);
}
