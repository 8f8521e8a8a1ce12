-- `breach_place`: what its calls ask for, and all that it promises, by `told` (the breach that is reported holds by
-- itself).
use Rattle.std.proofs.Common.{◌≡◌, refl, ap, sym, subst, ◌∙◌}
use Rattle.std.specs.Prelude.{List, Some}
use Rattle.std.proofs.lemmas.Bool.{eq-eqb, false≢true}
use Rattle.std.proofs.lemmas.Bool.Decides.{Decides-int_eq}
use Rattle.nms_quote.specs.Terms.{Terms}
use Rattle.nms_quote.specs.declared.plan.Leg.{Leg}
use Rattle.nms_quote.specs.declared.plan.Plan.{Plan}
use Rattle.nms_board.specs.View.{Seen}
use Rattle.nms_fee_book.specs.Fees.{Charges}
use Rattle.nms_rules.specs.Breach.{breach_of}
use Rattle.nms_rules.specs.Faultless.{cost_of, sum_of}
use Rattle.nms_rules.specs.declared.breach_kind.Breach.{Breach}
use Rattle.nms_rules.specs.declared.breach_kind.Breach.TheVariants as breach
use Rattle.nms_verdicts.specs.LegPlaces.{IsBrokenLeg, IsRepeat}
use Rattle.nms_verdicts.specs.BreachPlaces.{IsWorst, passed_over}
use Rattle.nms_verdicts.proofs.FindLemmas.{not-true}
use Rattle.nms_verdicts.proofs.BreachHolds.{Holds, told_holds}
use Rattle.nms_verdicts.proofs.ThroughLemmas.{all-better, named-among, some-leg}
use Rattle.nms_verdicts.proofs.plan_places.breach_places.breach_place.Goals as goal

-- the breach that is reported, by its name
told : (seen : Seen) (order : Terms) (fees : Charges) (plan : Plan) (why which : Breach)
    → breach_of seen order fees plan ≡ Some why → why ≡ which
    → Holds seen order fees plan which
told seen order fees plan why which is same = told_holds seen order fees plan which (is ∙ ap Some same)

pub first_broken-requires-clause-some : goal.first_broken-requires-clause-some
first_broken-requires-clause-some c =
    rw c.as_slice-legs.ensures.value (told c.args.view.now c.args.order.now c.args.fees.now c.args.plan.now c.args.breach
    breach.NoSuchQuotation c.requires c.in-NoSuchQuotation.is)

pub first_broken-requires-in-PriceDiffers-clause-some : goal.first_broken-requires-in-PriceDiffers-clause-some
first_broken-requires-in-PriceDiffers-clause-some c =
    rw c.as_slice-legs.ensures.value (told c.args.view.now c.args.order.now c.args.fees.now c.args.plan.now c.args.breach
    breach.PriceDiffers c.requires c.in-PriceDiffers.is)

pub first_broken-requires-in-ZeroLeg-clause-some : goal.first_broken-requires-in-ZeroLeg-clause-some
first_broken-requires-in-ZeroLeg-clause-some c =
    rw c.as_slice-legs.ensures.value (told c.args.view.now c.args.order.now c.args.fees.now c.args.plan.now c.args.breach
    breach.ZeroLeg c.requires c.in-ZeroLeg.is)

pub first_broken-requires-in-OverSize-clause-some : goal.first_broken-requires-in-OverSize-clause-some
first_broken-requires-in-OverSize-clause-some c =
    rw c.as_slice-legs.ensures.value (told c.args.view.now c.args.order.now c.args.fees.now c.args.plan.now c.args.breach
    breach.OverSize c.requires c.in-OverSize.is)

pub first_broken-requires-in-BeyondLimit-clause-some : goal.first_broken-requires-in-BeyondLimit-clause-some
first_broken-requires-in-BeyondLimit-clause-some c =
    rw c.as_slice-legs.ensures.value (told c.args.view.now c.args.order.now c.args.fees.now c.args.plan.now c.args.breach
    breach.BeyondLimit c.requires c.in-BeyondLimit.is)

pub returns-in-NoSuchQuotation : goal.returns-in-NoSuchQuotation
returns-in-NoSuchQuotation c = rw c.in-NoSuchQuotation.is (subst (λ (legs : List Leg). IsBrokenLeg c.args.view.now
    c.args.order.now legs breach.NoSuchQuotation c.first_broken.result) c.as_slice-legs.ensures.value
    c.first_broken.ensures)

pub returns-in-PriceDiffers : goal.returns-in-PriceDiffers
returns-in-PriceDiffers c = rw c.in-PriceDiffers.is (subst (λ (legs : List Leg). IsBrokenLeg c.args.view.now
    c.args.order.now legs breach.PriceDiffers c.first_broken-in-PriceDiffers.result) c.as_slice-legs.ensures.value
    c.first_broken-in-PriceDiffers.ensures)

pub returns-in-ZeroLeg : goal.returns-in-ZeroLeg
returns-in-ZeroLeg c = rw c.in-ZeroLeg.is (subst (λ (legs : List Leg). IsBrokenLeg c.args.view.now
    c.args.order.now legs breach.ZeroLeg c.first_broken-in-ZeroLeg.result) c.as_slice-legs.ensures.value
    c.first_broken-in-ZeroLeg.ensures)

pub returns-in-OverSize : goal.returns-in-OverSize
returns-in-OverSize c = rw c.in-OverSize.is (subst (λ (legs : List Leg). IsBrokenLeg c.args.view.now
    c.args.order.now legs breach.OverSize c.first_broken-in-OverSize.result) c.as_slice-legs.ensures.value
    c.first_broken-in-OverSize.ensures)

pub returns-in-BeyondLimit : goal.returns-in-BeyondLimit
returns-in-BeyondLimit c = rw c.in-BeyondLimit.is ((
  subst (λ (legs : List Leg). IsBrokenLeg c.args.view.now c.args.order.now legs breach.BeyondLimit c.first_broken-in-BeyondLimit.result)
      c.as_slice-legs.ensures.value
      c.first_broken-in-BeyondLimit.ensures,
  ap (λ (terms : Terms). terms.limit) c.order.view_is,
))

pub repeat_places-first-requires-clause-repeat : goal.repeat_places-first-requires-clause-repeat
repeat_places-first-requires-clause-repeat c =
    rw c.as_slice-legs.ensures.value (told c.args.view.now c.args.order.now c.args.fees.now c.args.plan.now c.args.breach
    breach.Repeated c.requires c.in-Repeated.is)

pub returns-in-Repeated : goal.returns-in-Repeated
returns-in-Repeated c = rw c.in-Repeated.is
    (subst (λ (terms : Terms). IsRepeat c.args.view.now terms.side c.args.plan.now.legs.items c.repeat_places-first.result.0
    c.repeat_places-first.result.1) c.order.view_is
    (subst (λ (legs : List Leg). IsRepeat c.args.view.now c.order.inside.side legs c.repeat_places-first.result.0
    c.repeat_places-first.result.1) c.as_slice-legs.ensures.value c.repeat_places-first.ensures))

pub worst_place-requires-clause-some : goal.worst_place-requires-clause-some
worst_place-requires-clause-some c =
    let holds = told c.args.view.now c.args.order.now c.args.fees.now c.args.plan.now c.args.breach
    (breach.TradedThrough c.in-TradedThrough.part)
    c.requires c.in-TradedThrough.is in
    rw c.as_slice-legs.ensures.value (some-leg c.args.view.now c.args.order.now c.args.plan.now.legs.items holds.0 holds.1)

pub returns-in-OtherVersion : goal.returns-in-OtherVersion
returns-in-OtherVersion c = rw c.in-OtherVersion.is (
  refl,
  c.version.ensures.version,
  told c.args.view.now c.args.order.now c.args.fees.now c.args.plan.now c.args.breach
      breach.OtherVersion c.requires c.in-OtherVersion.is,
)

pub returns-in-OtherOrder : goal.returns-in-OtherOrder
returns-in-OtherOrder c = rw c.in-OtherOrder.is (
  refl,
  c.order.view_is,
  c.sym.ensures,
  told c.args.view.now c.args.order.now c.args.fees.now c.args.plan.now c.args.breach
      breach.OtherOrder c.requires c.in-OtherOrder.is,
)

pub returns-in-OverAsked : goal.returns-in-OverAsked
returns-in-OverAsked c = rw c.in-OverAsked.is (
  c.sum_of.ensures ∙ ap sum_of c.as_slice-legs.ensures.value,
  c.get.ensures.number ∙ ap (λ (terms : Terms). terms.shares) c.order.view_is,
  told c.args.view.now c.args.order.now c.args.fees.now c.args.plan.now c.args.breach
      breach.OverAsked c.requires c.in-OverAsked.is,
)

pub returns-in-TradedThrough : goal.returns-in-TradedThrough
returns-in-TradedThrough c =
    let legs = c.args.plan.now.legs.items in
    let holds = told c.args.view.now c.args.order.now c.args.fees.now c.args.plan.now c.args.breach
    (breach.TradedThrough c.in-TradedThrough.part)
    c.requires c.in-TradedThrough.is in
    let worst : IsWorst c.args.view.now c.args.order.now.side legs c.worst_place.result =
    subst (λ (terms : Terms). IsWorst c.args.view.now terms.side legs c.worst_place.result) c.order.view_is
    (subst (λ (l : List Leg). IsWorst c.args.view.now c.order.inside.side l c.worst_place.result) c.as_slice-legs.ensures.value
    c.worst_place.ensures) in
    let rows : c.passed_over.result.items ≡ passed_over c.args.view.now c.args.order.now legs = c.passed_over.ensures
    ∙ ap (passed_over c.args.view.now c.args.order.now) c.as_slice-legs.ensures.value in
    rw c.in-TradedThrough.is (record {
      worst = worst;
      rows = rows;
      better = rw rows (all-better c.args.view.now c.args.order.now legs c.worst_place.result worst);
      named = rw rows (named-among c.args.view.now c.args.order.now legs holds.0 c.in-TradedThrough.part holds.1 holds.2);
    })

pub returns-in-FilledWrong : goal.returns-in-FilledWrong
returns-in-FilledWrong c = rw c.in-FilledWrong.is (
  refl,
  c.sum_of-in-FilledWrong.ensures ∙ ap sum_of c.as_slice-legs.ensures.value,
  λ same.
      false≢true (sym (not-true _ (told c.args.view.now c.args.order.now c.args.fees.now c.args.plan.now c.args.breach
      breach.FilledWrong c.requires c.in-FilledWrong.is))
      ∙ eq-eqb _ _ (same ∙ (c.sum_of-in-FilledWrong.ensures ∙ ap sum_of c.as_slice-legs.ensures.value))),
)

pub returns-in-CostWrong : goal.returns-in-CostWrong
returns-in-CostWrong c =
    let expected : c.cost_of.result ≡ cost_of c.args.fees.now c.args.order.now.side c.args.plan.now.legs.items = c.cost_of.ensures
    ∙ (ap (λ (terms : Terms). cost_of c.args.fees.now terms.side c.as_slice-legs.result.now) c.order.view_is
    ∙ ap (cost_of c.args.fees.now c.args.order.now.side) c.as_slice-legs.ensures.value) in
    let differs = not-true _ (told c.args.view.now c.args.order.now c.args.fees.now c.args.plan.now c.args.breach
    breach.CostWrong c.requires
    c.in-CostWrong.is) in
    rw c.in-CostWrong.is (refl, expected, λ same. false≢true (sym differs ∙ (Decides-int_eq _ _).1 (same ∙ expected)))
