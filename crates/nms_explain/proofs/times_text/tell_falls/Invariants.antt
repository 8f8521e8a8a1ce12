-- `tell_falls`: fewer times fell than there are versions so far.
use Rattle.std.proofs.Common.{◌<◌}
use Rattle.nms_explain.proofs.times_text.tell_falls.Given as goal

abbrev pub invariant-loop-before : goal.invariant-loop-before
invariant-loop-before l = l.falls < l.before
