-- `look_often`: the desk stays that of its opening.
use Rattle.std.proofs.Common.{◌≡◌}
use Rattle.nms_examples.proofs.callers.threads.look_often.Given as goal

abbrev pub invariant-loop-look : goal.invariant-loop-look
invariant-loop-look l = l.desk.opening ≡ l.initial.desk.opening
