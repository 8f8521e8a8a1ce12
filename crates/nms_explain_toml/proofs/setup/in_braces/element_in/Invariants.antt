-- `element_in`: no more elements ended than bytes were read, and no more brackets opened.
use Rattle.std.proofs.Common.{◌≤◌}
use Rattle.nms_explain_toml.proofs.setup.in_braces.element_in.Given as goal

abbrev pub invariant-loop-at : goal.invariant-loop-at
invariant-loop-at l = record {
  before : l.before ≤ l.at;
  depth : l.nest.depth ≤ l.at;
}
