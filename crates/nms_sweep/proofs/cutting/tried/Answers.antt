-- tried: what a cutoff offers costs what its marginal says (clause offer), by TakenLemmas: offer_is.
use Rattle.std.proofs.Common.{arith, ◌≡◌, ◌≤◌, ◌-◌, ap, ◌∙◌}
use Rattle.std.proofs.lemmas.Grind.{common_steps}
use Rattle.std.specs.Prelude.{pos, ◌+ℤ◌}
use Rattle.nms_rules.specs.Cutoff.{least_cost}
use Rattle.nms_rules.specs.Usable.{rank_of}
use Rattle.nms_sweep.specs.Choice.{share_cost}
use Rattle.nms_sweep.specs.Taken.{taken_cost}
use Rattle.nms_sweep.proofs.TakenLemmas.{choice_same, offer_is}
use Rattle.nms_sweep.proofs.cutting.tried.Goals as goal

pub returns-clause-offer : goal.returns-clause-offer
returns-clause-offer c =
    let by_cost = c.args.by_cost.now in
    let cutoff = c.args.cutoff.now in
    let rest = c.args.most - cutoff.swept in
    let rank = rank_of c.args.side cutoff.price in
    let marginal = c.take_cheapest-taken.result.marginal in
    let reaches : rest ≤ cutoff.pool = c.if-cutoff-rest.false in
    let cost : c.plus.result ≡ least_cost by_cost c.args.most rank marginal =
    offer_is c.args.side by_cost c.args.most cutoff marginal c.plus.result c.requires.ordered
    (c.requires.sums c.if-most-cutoff.false) reaches
    (c.take_cheapest-taken.ensures.marginal ∙ ap (λ z. share_cost z rest (pos 0) by_cost) c.of-rank.ensures)
    (c.plus.ensures ∙ ap (λ z. cutoff.swept_cost +ℤ z)
    (c.take_cheapest-taken.ensures.cost ∙ ap (λ z. taken_cost z rest by_cost) c.of-rank.ensures)) in
    choice_same c.of-rank.result rank marginal c.plus.result (least_cost by_cost c.args.most rank marginal) c.of-rank.ensures cost

-- ---- goals that `grind` closes; the search that is tried before it takes longer

pub plus-requires-clause-low : goal.plus-requires-clause-low
plus-requires-clause-low c = grind (arith, common_steps)

pub plus-requires-clause-high : goal.plus-requires-clause-high
plus-requires-clause-high c = grind (arith, common_steps)
