-- `first_broken`: that there is such a leg, and all that it promises, by `some_position` and `found-at`.
use Rattle.std.proofs.Common.{ap, subst, sym, ◌∙◌}
use Rattle.std.specs.Prelude.{Some}
use Rattle.nms_quote.specs.Terms.{Terms}
use Rattle.nms_verdicts.specs.LegPlaces.{IsLegPlace, breaks}
use Rattle.nms_verdicts.proofs.FindLemmas.{found-at, some_position}
use Rattle.nms_verdicts.proofs.plan_places.leg_tests.first_broken.Goals as goal

pub unreachable-requires : goal.unreachable-requires
unreachable-requires c = some_position (breaks c.args.view.now c.args.order.now c.args.breach) c.args.legs.now c.requires.some
    (sym c.broken_in.ensures ∙ c.in-None.is)

pub returns : goal.returns
returns c =
    let first = sym c.broken_in.ensures ∙ c.in-Some.is in record {
      stands = subst (λ (terms : Terms). IsLegPlace c.args.view.now terms.side c.args.legs.now c.leg_place.result) c.order.view_is
          c.leg_place.ensures.place;
      holds = found-at (breaks c.args.view.now c.args.order.now c.args.breach) c.args.legs.now c.in-Some.number c.leg_place.result.leg first
          (c.leg_place.ensures.own c.leg_place.result.leg);
      first = first ∙ ap Some (sym c.leg_place.ensures.number);
    }
