-- `sums_at`: how its loop begins, by `total_none` and `amount_none`, and its turns, by `total_more` and
-- `amount_more`.
use Rattle.std.proofs.Common.{arith, sym}
use Rattle.std.proofs.lemmas.Int.{ints}
use Rattle.nms_rules.specs.Cutoff.{savings_part, swept_cost_part, swept_part}
use Rattle.nms_rules.proofs.SumLemmas.{amount_more, amount_none, total_more, total_none}
use Rattle.nms_rules.proofs.cutoff.sums_at.Goals as goal

pub loop-row-init : goal.loop-row-init
loop-row-init c =
    rw c.none-sums.ensures (record {
      swept = sym (total_none (swept_part c.args.cutoff));
      within = omega arith;
      swept_cost = sym (amount_none (swept_cost_part c.args.cutoff));
      cost_low = omega (arith, ints);
      cost_high = omega (arith, ints);
      savings = sym (amount_none (savings_part c.args.cutoff c.args.marginal));
      savings_low = omega (arith, ints);
      savings_high = omega (arith, ints);
    })

pub loop-row-preserved : goal.loop-row-preserved
loop-row-preserved c =
    let swept = total_more (swept_part c.args.cutoff) c.args.rows.now c.loop-row.row-index c.row-item.result c.loop-row-test.true c.row-item.is
    in
    let cost = amount_more (swept_cost_part c.args.cutoff) c.args.rows.now c.loop-row.row-index c.row-item.result c.loop-row-test.true
    c.row-item.is in
    let savings = amount_more (savings_part c.args.cutoff c.args.marginal) c.args.rows.now c.loop-row.row-index c.row-item.result
    c.loop-row-test.true c.row-item.is in
    record {
      swept = omega (arith, c.with_row-sums.ensures.swept, c.loop-row.invariant.swept, swept);
      within = omega (arith, c.with_row-sums.ensures.swept, c.with_row-sums.ensures.within, c.loop-row.invariant.within);
      swept_cost = omega (arith, ints, c.with_row-sums.ensures.swept_cost, c.loop-row.invariant.swept_cost, cost);
      cost_low = omega (arith, ints, c.with_row-sums.ensures.swept_cost, c.with_row-sums.ensures.cost_low, c.loop-row.invariant.cost_low);
      cost_high = omega (arith, ints, c.with_row-sums.ensures.swept_cost, c.with_row-sums.ensures.cost_high, c.loop-row.invariant.cost_high);
      savings = omega (arith, ints, c.with_row-sums.ensures.savings, c.loop-row.invariant.savings, savings);
      savings_low = omega (arith, ints, c.with_row-sums.ensures.savings, c.with_row-sums.ensures.savings_low, c.loop-row.invariant.savings_low);
      savings_high = omega (arith, ints, c.with_row-sums.ensures.savings, c.with_row-sums.ensures.savings_high, c.loop-row.invariant.savings_high);
    }
