-- `value_length`: one byte more was read, and the value does not end there.
use Rattle.std.proofs.Common.{◌∙◌, sym, arith}
use Rattle.nms_explain_toml.proofs.ValueFacts.{value_more}
use Rattle.nms_explain_toml.proofs.toml_line.value_length.Goals as goal

pub loop-place-preserved : goal.loop-place-preserved
loop-place-preserved c = record {
  length = value_more c.loop-place.nest c.after_byte-nest.result c.args.rest.now c.loop-place.place _ c.loop-place-test.true
      c.after_byte-nest.ensures.value (sym c.ends_here.ensures ∙ c.if-ends_here.false) c.loop-place.invariant.length;
  depth = omega (arith, c.after_byte-nest.ensures.depth, c.loop-place.invariant.depth);
}
