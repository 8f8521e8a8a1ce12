-- `key_in`: no more brackets opened than bytes were read.
use Rattle.std.proofs.Common.{◌≤◌}
use Rattle.nms_explain_toml.proofs.setup.in_braces.key_in.Given as goal

abbrev pub invariant-loop-at : goal.invariant-loop-at
invariant-loop-at l = l.nest.depth ≤ l.at
