-- `sums_of`: the turns of its loop, by `sums-next`; what `with` asks, by `count_so_far` and `count_of_one`.
use Rattle.std.proofs.Common.{◌<◌, length, sym, subst, ◌∙◌, arith, rules}
use Rattle.nms_trades.specs.Sums.{IsCost, marked_from}
use Rattle.nms_trades.proofs.SumFacts.{cost_with, count_of_one, count_so_far, no_cost, sums-next}
use Rattle.nms_trades.proofs.money_through.sums_of.Goals as goal

pub loop-place-init : goal.loop-place-init
unfolding marked_from
loop-place-init c =
    let none = c.none-sums.ensures c.args.execution.now c.args.execution.now.shares in
    record { sums = none; cost = subst IsCost (sym none) (no_cost c.args.execution.now c.args.execution.now.shares) }

pub with-sums-requires-clause-count : goal.with-sums-requires-clause-count
with-sums-requires-clause-count c =
    let below : c.loop-place.place < length c.args.finding.now.passed.items = omega (
      arith,
      c.loop-place-test.true,
      c.len-place-end.ensures,
    ) in
    let so_far = count_so_far c.args.execution.now c.args.finding.now c.loop-place.place c.loop-place.sums (omega (arith, below))
    c.loop-place.invariant.sums in
    let own = count_of_one c.args.execution.now _ _ c.sums_of_row.result c.sums_of_row.ensures.sums in
    search (arith, rules, so_far.0, own.0)

pub with-sums-requires-clause-flickers : goal.with-sums-requires-clause-flickers
with-sums-requires-clause-flickers c =
    let below : c.loop-place.place < length c.args.finding.now.passed.items = omega (
      arith,
      c.loop-place-test.true,
      c.len-place-end.ensures,
    ) in
    let so_far = count_so_far c.args.execution.now c.args.finding.now c.loop-place.place c.loop-place.sums (omega (arith, below))
    c.loop-place.invariant.sums in
    let own = count_of_one c.args.execution.now _ _ c.sums_of_row.result c.sums_of_row.ensures.sums in
    search (arith, rules, so_far.1, own.1)

pub loop-place-preserved : goal.loop-place-preserved
loop-place-preserved c =
    let had = c.loop-place.invariant in
    let below : c.loop-place.place < length c.args.finding.now.passed.items = omega (
      arith,
      c.loop-place-test.true,
      c.len-place-end.ensures,
    ) in
    record {
      sums = c.with-sums.ensures
          ∙ sums-next c.args.execution.now c.args.finding.now c.loop-place.place c.loop-place.sums c.sums_of_row.result _ c.index.result.now
          c.is_flickering.result below c.index.ensures c.is_flickering.ensures had.sums (omega (arith, c.get.ensures.number))
          c.sums_of_row.ensures.sums;
      cost = subst IsCost (sym c.with-sums.ensures)
          (cost_with c.loop-place.sums c.sums_of_row.result had.cost c.sums_of_row.ensures.cost);
    }
