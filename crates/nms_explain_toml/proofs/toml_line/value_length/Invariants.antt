-- `value_length`: the bytes looked at, and those of the rest before the value's end. No more brackets opened than bytes were read.
use Rattle.std.proofs.Common.{◌≡◌, ◌≤◌, ◌+◌, drop}
use Rattle.nms_explain_toml.specs.Lines.{value_length}
use Rattle.nms_explain_toml.specs.Nesting.{outer_nest}
use Rattle.nms_explain_toml.proofs.toml_line.value_length.Given as goal

abbrev pub invariant-loop-place : goal.invariant-loop-place
invariant-loop-place l = record {
  length : l.place + value_length l.nest (drop l.place l.rest) ≡ value_length outer_nest l.rest;
  depth : l.nest.depth ≤ l.place;
}
