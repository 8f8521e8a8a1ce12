-- `after_line`: one byte more was read.
use Rattle.std.proofs.Common.{arith}
use Rattle.nms_explain_toml.proofs.NestFacts.{after_more}
use Rattle.nms_explain_toml.proofs.nest.Nest.after_line.Goals as goal

pub loop-place-preserved : goal.loop-place-preserved
loop-place-preserved c = record {
  leads = after_more c.loop-place.nest c.after_byte-nest.result _ c.args.line.now c.loop-place.place c.loop-place-test.true
      c.after_byte-nest.ensures.value c.loop-place.invariant.leads;
  depth = omega (arith, c.after_byte-nest.ensures.depth, c.loop-place.invariant.depth);
}
