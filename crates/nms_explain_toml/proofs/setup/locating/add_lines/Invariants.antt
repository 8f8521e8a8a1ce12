-- `add_lines`: a line begins in the text; no more brackets are open than bytes are before it, and no more headers are there.
-- Each line ends after its start.
use Rattle.std.proofs.Common.{length, ◌-◌, ◌≤◌}
use Rattle.nms_explain_toml.proofs.setup.locating.add_lines.Given as goal

abbrev pub invariant-lines : goal.invariant-lines
invariant-lines l = record {
  within : l.reached.start.bytes ≤ length l.text;
  depth : l.reached.start.nest.depth ≤ l.reached.start.bytes;
  participants : l.reached.participants ≤ l.reached.start.bytes;
  symbols : l.reached.symbols ≤ l.reached.start.bytes;
}

abbrev pub decreases-lines : goal.decreases-lines
decreases-lines l = length l.text - l.reached.start.bytes
