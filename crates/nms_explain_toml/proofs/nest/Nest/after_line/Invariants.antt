-- `after_line`: from here on the rest of the line leads where the complete line does; no more brackets opened than bytes were read.
use Rattle.std.proofs.Common.{◌≡◌, ◌≤◌, ◌+◌, drop}
use Rattle.nms_explain_toml.specs.Nesting.{after_bytes}
use Rattle.nms_explain_toml.proofs.nest.Nest.after_line.Given as goal

abbrev pub invariant-loop-place : goal.invariant-loop-place
invariant-loop-place l = record {
  leads : after_bytes l.nest (drop l.place l.line) ≡ after_bytes l.fn.self l.line;
  depth : l.nest.depth ≤ l.fn.self.depth + l.place;
}
