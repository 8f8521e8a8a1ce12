-- `locate_named`: a line begins in the text, and no more brackets are open than bytes are before it. Each line ends after its
-- start.
use Rattle.std.proofs.Common.{length, ◌-◌, ◌≤◌}
use Rattle.nms_explain_toml.proofs.named.locate_named.Given as goal

abbrev pub invariant-lines : goal.invariant-lines
invariant-lines l = record {
  within : l.start.bytes ≤ length l.text;
  depth : l.start.nest.depth ≤ l.start.bytes;
}

abbrev pub decreases-lines : goal.decreases-lines
decreases-lines l = length l.text - l.start.bytes
