-- fill: all that is planned, by what the walk found (PlanLemmas: Found) and how the legs at the chosen cutoff fill.
use Rattle.std.proofs.Common.{◌≡◌, ◌≤◌, All, List, Option, None, length, map, refl, ap, sym, ◌∙◌, subst, arith}
use Rattle.nms_quote.specs.Terms.{Terms}
use Rattle.nms_quote.specs.contracts.order.Order.{the_view}
use Rattle.nms_quote.specs.declared.certificate.Cut.{Cut}
use Rattle.nms_quote.specs.declared.plan.Leg.{Leg}
use Rattle.nms_quote.specs.declared.plan.Plan.{Plan}
use Rattle.nms_board.specs.View.{Seen}
use Rattle.nms_fee_book.specs.Fees.{Charges}
use Rattle.nms_rules.specs.Accepted.{IsAccepted}
use Rattle.nms_rules.specs.Assignment.{fillable}
use Rattle.nms_rules.specs.Faultless.{sum_of}
use Rattle.nms_rules.specs.Usable.{Usable, usable}
use Rattle.nms_rules.proofs.Offered.{none_of_faultless, accepted_optimal}
use Rattle.nms_sweep.specs.Choice.{chosen, cost_chosen, cut_by, legs_chosen}
use Rattle.nms_sweep.specs.Cutoffs.{IsCutoffOf}
use Rattle.nms_sweep.specs.Filling.{AreExact}
use Rattle.nms_sweep.specs.Order.{AreInOrder, HasReached, IsByPrice}
use Rattle.nms_sweep.specs.Passed.{IsPassed, coming}
use Rattle.nms_sweep.specs.Planned.{IsPlanned, IsTable, plan_of}
use Rattle.nms_sweep.specs.declared.choice.Choice.{Choice}
use Rattle.nms_sweep.specs.declared.cutoffs.Cutoff.{Cutoff}
use Rattle.nms_sweep.proofs.ExactLemmas.{exact}
use Rattle.nms_sweep.proofs.FillingLemmas.{filling}
use Rattle.nms_sweep.proofs.NearLemmas.{found_near, reach_of, sums_near}
use Rattle.nms_sweep.proofs.OrderLemmas.{all_by_cost}
use Rattle.nms_sweep.proofs.PlanLemmas.{Fills, Found, accepted, faultless, legs_found, rising}
use Rattle.nms_sweep.proofs.SameLemmas.{legs_same}
use Rattle.nms_sweep.proofs.StandLemmas.{chosen_in_order}
use Rattle.nms_sweep.proofs.planning.fill.Goals as goal

pub put_legs-requires-clause-few : goal.put_legs-requires-clause-few
put_legs-requires-clause-few g c =
    let seen : Seen = c.requires.table.0 in
    let fees : Charges = c.requires.table.1 in
    let walk = c.requires.table.2 in
    let asked : Terms = c.args.order.now in
    let rows : List Usable = usable seen asked fees in
    let by_price : List Usable = c.args.cutoffs.now.rows in
    let by_cost : List Usable = all_by_cost by_price in
    let cuts : List Cut = g.W.PlanRoom.cuts c.put_cuts-choice.new.out in
    let most = c.fillable-most.result in
    let found : Option Choice = c.put_cuts-choice.result in
    let first : c.rows-rows.result.now ≡ by_price = c.rows-rows.ensures.rows in
    let near : List Usable = c.reachable-by_cost.result in
    let reached : HasReached most c.rows-rows.result.now near = c.reachable-by_cost.ensures.reach in
    let next : coming c.rows-rows.result.now c.passed.result ≡ c.args.cutoffs.now.to_come =
    ap (λ (some : List Usable). coming some c.passed.result) first ∙ sym c.passed.ensures.coming in
    let all : Found seen asked fees by_price by_cost cuts most found =
    found_near seen asked fees (the_view c.order.inside) c.rows-rows.result.now reached.0 near
    c.args.cutoffs.now.to_come by_price cuts most found
    c.order.view_is walk.bids walk.offers walk.rows walk.ordered walk.all walk.cutoffs first
    (reach_of most c.rows-rows.result.now by_price reached.0 first reached.2)
    reached.1 c.reachable-by_cost.ensures.ordered c.fillable-most.ensures.most
    (c.put_cuts-choice.ensures.cuts ∙ ap (λ (some : List Cutoff). map (cut_by (the_view c.order.inside).side near most) some) next)
    (c.put_cuts-choice.ensures.best
    ∙ ap (λ (some : List Cutoff). chosen (the_view c.order.inside).side near most None
    (map (cut_by (the_view c.order.inside).side near most) some)) next) in
    let fills = legs_found seen asked fees by_price by_cost cuts most found all in
    let same : legs_chosen c.rows-rows.result.now most found c.rows-rows.result.now ≡ legs_chosen rows most found by_price =
    ap (λ (some : List Usable). legs_chosen some most found some) first ∙ legs_same rows by_price walk.rows most found in
    omega (arith, ap sum_of same, fills.sum, all.fillable_is, c.fillable-most.ensures.within)

pub put_legs-requires-clause-ordered : goal.put_legs-requires-clause-ordered
put_legs-requires-clause-ordered g c = subst IsByPrice (sym c.rows-rows.ensures.rows) c.requires.table.2.ordered

pub reachable-by_cost-requires-clause-prices : goal.reachable-by_cost-requires-clause-prices
reachable-by_cost-requires-clause-prices g c = subst IsByPrice (sym c.rows-rows.ensures.rows) c.requires.table.2.ordered

pub put_cuts-choice-requires-clause-passed : goal.put_cuts-choice-requires-clause-passed
put_cuts-choice-requires-clause-passed g c =
    subst (λ (some : List Usable). IsPassed some c.passed.result) (sym c.rows-rows.ensures.rows) c.passed.ensures.passed

pub put_cuts-choice-requires-clause-few : goal.put_cuts-choice-requires-clause-few
put_cuts-choice-requires-clause-few g c =
    let next : coming c.rows-rows.result.now c.passed.result ≡ c.args.cutoffs.now.to_come =
    ap (λ (some : List Usable). coming some c.passed.result) c.rows-rows.ensures.rows ∙ sym c.passed.ensures.coming in
    omega (arith, ap length next, c.requires.few)

pub put_cuts-choice-requires-clause-sums : goal.put_cuts-choice-requires-clause-sums
put_cuts-choice-requires-clause-sums g c =
    let seen : Seen = c.requires.table.0 in
    let fees : Charges = c.requires.table.1 in
    let walk = c.requires.table.2 in
    let by_price : List Usable = c.args.cutoffs.now.rows in
    let most = c.fillable-most.result in
    let near : List Usable = c.reachable-by_cost.result in
    let reached : HasReached most c.rows-rows.result.now near = c.reachable-by_cost.ensures.reach in
    let asked = ap (λ (some : Terms). some.side) c.order.view_is in
    let next : coming c.rows-rows.result.now c.passed.result ≡ c.args.cutoffs.now.to_come =
    ap (λ (some : List Usable). coming some c.passed.result) c.rows-rows.ensures.rows ∙ sym c.passed.ensures.coming in
    let sums : All (λ (cutoff : Cutoff). cutoff.swept ≤ most → IsCutoffOf c.args.order.now.side near cutoff) c.args.cutoffs.now.to_come =
    sums_near c.args.order.now.side most (usable seen c.args.order.now fees) by_price reached.0 near
    c.args.cutoffs.now.to_come walk.rows
    (reach_of most c.rows-rows.result.now by_price reached.0 c.rows-rows.ensures.rows reached.2) reached.1 walk.cutoffs in
    subst (All (λ (cutoff : Cutoff). cutoff.swept ≤ most → IsCutoffOf (the_view c.order.inside).side near cutoff)) (sym next)
    (subst (λ side. All (λ (cutoff : Cutoff). cutoff.swept ≤ most → IsCutoffOf side near cutoff) c.args.cutoffs.now.to_come) (sym asked) sums)

pub returns-clause-planned : goal.returns-clause-planned
returns-clause-planned g c = λ (seen : Seen) (fees : Charges) (walk : IsTable seen c.args.order.now fees c.args.version c.args.cutoffs.now).
    let asked : Terms = c.args.order.now in
    let rows : List Usable = usable seen asked fees in
    let by_price : List Usable = c.args.cutoffs.now.rows in
    let by_cost : List Usable = all_by_cost by_price in
    let cuts : List Cut = g.W.PlanRoom.cuts c.put_cuts-choice.new.out in
    let most = c.fillable-most.result in
    let found : Option Choice = c.put_cuts-choice.result in
    let first : c.rows-rows.result.now ≡ by_price = c.rows-rows.ensures.rows in
    let near : List Usable = c.reachable-by_cost.result in
    let reached : HasReached most c.rows-rows.result.now near = c.reachable-by_cost.ensures.reach in
    let next : coming c.rows-rows.result.now c.passed.result ≡ c.args.cutoffs.now.to_come =
    ap (λ (some : List Usable). coming some c.passed.result) first ∙ sym c.passed.ensures.coming in
    let all : Found seen asked fees by_price by_cost cuts most found =
    found_near seen asked fees (the_view c.order.inside) c.rows-rows.result.now reached.0 near
    c.args.cutoffs.now.to_come by_price cuts most found
    c.order.view_is walk.bids walk.offers walk.rows walk.ordered walk.all walk.cutoffs first
    (reach_of most c.rows-rows.result.now by_price reached.0 first reached.2)
    reached.1 c.reachable-by_cost.ensures.ordered c.fillable-most.ensures.most
    (c.put_cuts-choice.ensures.cuts ∙ ap (λ (some : List Cutoff). map (cut_by (the_view c.order.inside).side near most) some) next)
    (c.put_cuts-choice.ensures.best
    ∙ ap (λ (some : List Cutoff). chosen (the_view c.order.inside).side near most None
    (map (cut_by (the_view c.order.inside).side near most) some)) next) in
    let fills = legs_found seen asked fees by_price by_cost cuts most found all in
    let same : legs_chosen c.rows-rows.result.now most found c.rows-rows.result.now ≡ legs_chosen rows most found by_price =
    ap (λ (some : List Usable). legs_chosen some most found some) first ∙ legs_same rows by_price walk.rows most found in
    let made : List Leg = g.W.PlanRoom.legs c.put_legs.new.out in
    let legs : made ≡ legs_chosen rows most found by_price = c.put_legs.ensures.legs ∙ same in
    let filled = subst (λ (one : List Leg). Fills asked.side fees by_price (fillable rows asked.shares) (cost_chosen found) one) (sym legs)
    fills in
    let paid = subst (λ cost. Fills asked.side fees by_price (fillable rows asked.shares) cost made)
    (sym c.cost_chosen.ensures) filled in
    let plan : Plan = plan_of asked made (record { version = c.args.version; filled = most; cost = c.cost_chosen.result }) in
    let is = faultless seen asked fees plan by_price by_cost all.rows walk.version refl walk.sym
    all.fillable_is paid in
    let accepted' : IsAccepted seen asked fees plan cuts =
    accepted seen asked fees plan by_price by_cost cuts all.rows is all.fillable_is all.cuts_are c.put_cuts-choice.ensures.range
    (c.cost_chosen.ensures ∙ ap cost_chosen all.found_is) in
    subst (λ (some : List Cut). IsPlanned seen asked fees plan some) (sym c.put_legs.ensures.cuts)
    (record {
      lawful = none_of_faultless seen asked fees plan walk.bids walk.offers is;
      most = all.fillable_is;
      accepted = accepted';
      optimal = accepted_optimal seen asked fees plan cuts walk.bids walk.offers accepted';
      ordered = subst (AreInOrder asked.side) (sym legs)
          (chosen_in_order seen asked fees rows by_price refl
          (rising asked.side seen walk.bids walk.offers) walk.rows walk.ordered most found);
      filling = filling asked.side fees rows by_price by_cost all.rows (fillable rows asked.shares) (cost_chosen found) made filled;
      exact = subst (λ n. AreExact asked.side rows n cuts) (sym all.fillable_is)
          (exact asked.side fees rows by_price by_cost all.rows (fillable rows asked.shares) cuts all.cuts_are);
    })
