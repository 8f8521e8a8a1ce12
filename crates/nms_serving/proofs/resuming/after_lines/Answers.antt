-- `after_lines`: the turns of its loop, by `after_feed` and `after_other`; and a text with too few lines, by `after_none`.
use Rattle.std.proofs.Common.{◌∙◌, ap, sym, arith, length}
use Rattle.nms_serving.proofs.LineFacts.{after_feed, after_none, after_other}
use Rattle.nms_serving.proofs.resuming.after_lines.Goals as goal

pub loop-left-preserved-then-byte-eq10 : goal.loop-left-preserved-then-byte-eq10
loop-left-preserved-then-byte-eq10 c = record {
  same = c.loop-left.invariant.same
      ∙ after_feed c.loop-left.left c.in-Some.byte.now c.loop-left.rest.now c.in-Some.more.now c.loop-left-test.true
      c.in-Some.ensures.cases.0 c.if-byte-eq10.true;
  within = omega (arith, ap length c.in-Some.ensures.cases.0);
}

pub loop-left-preserved : goal.loop-left-preserved
loop-left-preserved c = record {
  same = c.loop-left.invariant.same
      ∙ after_other c.loop-left.left c.in-Some.byte.now c.loop-left.rest.now c.in-Some.more.now c.loop-left-test.true
      c.in-Some.ensures.cases.0 c.if-byte-eq10.false;
  within = omega (arith, ap length c.in-Some.ensures.cases.0);
}

pub returns-in_default-clause-rest : goal.returns-in_default-clause-rest
returns-in_default-clause-rest c =
    sym (c.loop-left.invariant.same ∙ after_none c.loop-left.left c.loop-left.rest.now c.loop-left-test.true c.in_default.ensures.cases)
