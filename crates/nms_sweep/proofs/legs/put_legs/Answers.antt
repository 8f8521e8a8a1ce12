-- put_legs: the legs of the rows at the cutoff or better are those of all rows, by FrontLemmas: front_legs.
use Rattle.std.proofs.Common.{◌≡◌, ◌≤◌, List, Option, ap, sym, ◌∙◌, subst}
use Rattle.nms_quote.specs.declared.plan.Leg.{Leg}
use Rattle.nms_rules.specs.Faultless.{sum_of}
use Rattle.nms_rules.specs.Usable.{Usable}
use Rattle.nms_sweep.specs.Choice.{legs_chosen, legs_of}
use Rattle.nms_sweep.specs.declared.choice.Choice.{Choice}
use Rattle.nms_units.specs.declared.TheConstants.{MOST_SHARES}
use Rattle.nms_sweep.proofs.FrontLemmas.{front_legs}
use Rattle.nms_sweep.proofs.legs.put_legs.Goals as goal

pub put_legs_at-requires-clause-few : goal.put_legs_at-requires-clause-few
put_legs_at-requires-clause-few g c =
    let rows : List Usable = c.args.rows.now in
    let some : List Usable = c.taken_before-before.result.1.now in
    let choice : Choice = c.in-Some.choice in
    let left = c.saturating_sub-left.result in
    let same : legs_of choice.cutoff choice.marginal left some ≡ legs_chosen rows c.args.most c.args.choice.now rows =
    front_legs choice.cutoff choice.marginal c.args.most c.taken_before-before.result.0 left rows some c.taken_before-before.ensures.stop
    c.taken_before-before.ensures.sum c.saturating_sub-left.ensures
    ∙ ap (λ (found : Option Choice). legs_chosen rows c.args.most found rows) (sym c.in-Some.is) in
    subst (λ (legs : List Leg). sum_of legs ≤ MOST_SHARES) (sym same) c.requires.few

pub returns-in-Some-clause-legs : goal.returns-in-Some-clause-legs
returns-in-Some-clause-legs g c =
    let rows : List Usable = c.args.rows.now in
    let some : List Usable = c.taken_before-before.result.1.now in
    let choice : Choice = c.in-Some.choice in
    let left = c.saturating_sub-left.result in
    c.put_legs_at.ensures.legs
    ∙ (front_legs choice.cutoff choice.marginal c.args.most c.taken_before-before.result.0 left rows some c.taken_before-before.ensures.stop
    c.taken_before-before.ensures.sum c.saturating_sub-left.ensures
    ∙ ap (λ (found : Option Choice). legs_chosen rows c.args.most found rows) (sym c.in-Some.is))
