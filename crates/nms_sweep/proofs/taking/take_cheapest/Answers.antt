-- `take_cheapest`: clause `cost` and the turns of its loop, by `share_later`, `taken_here` and `taken_later`.
use Rattle.std.proofs.Common.{◌≡◌, ◌+◌, ◌-◌, false, true, List, ◌∷◌, drop, ap, sym, ◌∙◌, arith}
use Rattle.std.proofs.lemmas.Grind.{common_steps}
use Rattle.std.specs.Prelude.{pos, ◌*ℤ◌}
use Rattle.std.proofs.lemmas.Bool.{and_parts, leb-true}
use Rattle.std.proofs.lemmas.Int.{ints}
use Rattle.nms_rules.specs.Cutoff.{pool_part}
use Rattle.nms_rules.specs.Usable.{Usable}
use Rattle.nms_sweep.specs.Choice.{has_last, share_cost}
use Rattle.nms_sweep.specs.Taken.{taken_cost}
use Rattle.nms_sweep.proofs.ByCostLemmas.{rows_from}
use Rattle.nms_sweep.proofs.TakenLemmas.{share_here, share_later, taken_here, taken_later}
use Rattle.nms_sweep.proofs.taking.take_cheapest.Goals as goal

pub returns-then-has_last-clause-cost : goal.returns-then-has_last-clause-cost
returns-then-has_last-clause-cost c =
    let cutoff = c.args.cutoff in
    let left = c.loop-at.left in
    let rows : List Usable = c.args.by_cost.now in
    let at = c.loop-at.at in
    let row : Usable = c.row-row.result.now in
    let more : List Usable = drop (at + 1) rows in
    let behind : drop at rows ≡ row ∷ more =
    rows_from rows at c.len-at-end.result row c.loop-at-test.true c.len-at-end.ensures (c.row-row.ensures row) in
    let last : has_last cutoff left row ≡ true = sym c.has_last.ensures ∙ c.if-has_last.true in
    let parts = and_parts _ _ last in
    let here = taken_here cutoff left row more parts.0 (leb-true left row.size parts.1) in
    omega (arith, ints, c.loop-at.invariant.cost, ap (taken_cost cutoff left) behind, here, c.with_shares.ensures.cost)

pub returns-then-has_last-clause-marginal : goal.returns-then-has_last-clause-marginal
returns-then-has_last-clause-marginal c =
    let cutoff = c.args.cutoff in
    let left = c.loop-at.left in
    let rows : List Usable = c.args.by_cost.now in
    let at = c.loop-at.at in
    let row : Usable = c.row-row.result.now in
    let more : List Usable = drop (at + 1) rows in
    let behind : drop at rows ≡ row ∷ more =
    rows_from rows at c.len-at-end.result row c.loop-at-test.true c.len-at-end.ensures (c.row-row.ensures row) in
    c.with_shares.ensures.marginal
    ∙ sym (c.loop-at.invariant.marginal ∙ ap (share_cost cutoff left c.loop-at.taken.marginal) behind
    ∙ share_here cutoff left c.loop-at.taken.marginal row more (sym c.has_last.ensures ∙ c.if-has_last.true))

pub loop-at-preserved : goal.loop-at-preserved
loop-at-preserved c =
    let cutoff = c.args.cutoff in
    let left = c.loop-at.left in
    let rows : List Usable = c.args.by_cost.now in
    let at = c.loop-at.at in
    let row : Usable = c.row-row.result.now in
    let more : List Usable = drop (at + 1) rows in
    let behind : drop at rows ≡ row ∷ more =
    rows_from rows at c.len-at-end.result row c.loop-at-test.true c.len-at-end.ensures (c.row-row.ensures row) in
    let is = c.loop-at.invariant in
    let later : has_last cutoff left row ≡ false = sym c.has_last.ensures ∙ c.if-has_last.false in
    let step = share_later cutoff left c.loop-at.taken.marginal row more later in
    let part : c.pool_part-part.result ≡ pool_part cutoff row = c.pool_part-part.ensures.part in
    let rest : c.saturating_sub-left.result ≡ left - pool_part cutoff row = c.saturating_sub-left.ensures ∙ ap (λ n. left - n) part in
    let with' = c.with_shares-taken.ensures in
    record {
      marginal = is.marginal ∙ ap (share_cost cutoff left c.loop-at.taken.marginal) behind ∙ step.1
          ∙ ap (λ n. share_cost cutoff n row.cost more) (sym rest)
          ∙ ap (λ z. share_cost cutoff c.saturating_sub-left.result z more) (sym with'.marginal);
      cost = omega (
        arith,
        ints,
        is.cost,
        ap (taken_cost cutoff left) behind,
        taken_later cutoff left row more step.0,
        with'.cost,
        ap (λ n. row.cost *ℤ pos n) part,
        ap (λ n. taken_cost cutoff n more) rest,
      );
      marginal_low = omega (arith, ints, with'.marginal, with'.marginal_low);
      marginal_high = omega (arith, ints, with'.marginal, with'.marginal_high);
      within = omega (arith, c.loop-at-test.true, c.len-at-end.ensures);
      low = omega (arith, ints, is.low, with'.cost, with'.low);
      high = omega (arith, ints, is.high, with'.cost, with'.high);
      few = omega (arith, is.few, rest);
    }

-- ---- goals that `grind` closes; the search that is tried before it takes longer

pub with_shares-taken-requires-clause-low : goal.with_shares-taken-requires-clause-low
with_shares-taken-requires-clause-low c = grind (arith, common_steps)

pub with_shares-requires-clause-low : goal.with_shares-requires-clause-low
with_shares-requires-clause-low c = grind (arith, common_steps)

pub with_shares-taken-requires-clause-high : goal.with_shares-taken-requires-clause-high
with_shares-taken-requires-clause-high c = grind (arith, common_steps)

pub returns-then-has_last-clause-high : goal.returns-then-has_last-clause-high
returns-then-has_last-clause-high c = grind (arith, common_steps)

pub with_shares-requires-clause-high : goal.with_shares-requires-clause-high
with_shares-requires-clause-high c = grind (arith, common_steps)

pub returns-then-has_last-clause-marginal_low : goal.returns-then-has_last-clause-marginal_low
returns-then-has_last-clause-marginal_low c = grind (arith, common_steps)

pub loop-at-init : goal.loop-at-init
loop-at-init c = grind (arith, common_steps)

pub returns-then-has_last-clause-marginal_high : goal.returns-then-has_last-clause-marginal_high
returns-then-has_last-clause-marginal_high c = grind (arith, common_steps)

pub returns-clause-low : goal.returns-clause-low
returns-clause-low c = grind (arith, common_steps)
