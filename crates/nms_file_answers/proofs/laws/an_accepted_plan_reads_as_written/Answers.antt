-- `an_accepted_plan_reads_as_written`: all that it promises, by `AreTyped` and `fits_text`.
use Rattle.std.proofs.Common.{◌≤◌, List, length, arith, subst}
use Rattle.std.specs.Prelude.{All}
use Rattle.nms_units.specs.declared.TheConstants.{MOST_SHARES}
use Rattle.nms_quote.specs.Terms.{Terms}
use Rattle.nms_quote.specs.declared.certificate.Cut.{Cut}
use Rattle.nms_quote.specs.declared.plan.Leg.{Leg}
use Rattle.nms_lines.specs.PlanLaws.{IsPriceInRange}
use Rattle.nms_file_answers.proofs.FitFacts.{AreTyped, fits_text}
use Rattle.nms_file_answers.proofs.laws.an_accepted_plan_reads_as_written.Goals as goal

typed : (c : goal.After-cuts_are_in_range) → AreTyped c.args.order.now c.args.plan.now c.args.certificate.now.items
typed c = record {
  some = subst (λ (order : Terms). 1 ≤ order.shares) c.order.view_is c.order.invariant;
  shares = subst (λ (order : Terms). order.shares ≤ MOST_SHARES) c.order.view_is (omega (arith, c.get.ensures.high, c.get.ensures.number));
  limit = subst (λ (order : Terms). IsPriceInRange order.limit) c.order.view_is
      (omega (arith, c.get-2.ensures.low, c.get-2.ensures.number), omega (arith, c.get-2.ensures.high, c.get-2.ensures.number));
  legs = subst (λ (legs : List Leg). All (λ (leg : Leg). IsPriceInRange leg.price × (leg.shares ≤ MOST_SHARES)) legs)
      c.as_slice.ensures.value c.legs_are_in_range.ensures;
  few_legs = subst (λ (legs : List Leg). length legs ≤ 32) c.as_slice.ensures.value c.as_slice.ensures.fits;
  prices = subst (λ (cuts : List Cut). All (λ (cut : Cut). IsPriceInRange cut.price) cuts) c.as_slice-2.ensures.value
      c.cuts_are_in_range.ensures;
  few_cuts = subst (λ (cuts : List Cut). length cuts ≤ 32) c.as_slice-2.ensures.value c.as_slice-2.ensures.fits;
}

pub returns : goal.returns
returns c = λ tape few there named is.
    c.a_plan_reads_as_written.ensures c.args.plan.now c.args.certificate.now.items
    (fits_text c.args.roster.now tape c.args.order.now c.args.fees.now c.args.plan.now c.args.certificate.now.items few there named
    (typed c)
    (c.an_accepted_plan_is_within_bounds.ensures
    (Rattle.nms_board.specs.View.view_of (Rattle.nms_quote.specs.Roster.sizes_of c.args.roster.now) tape c.args.order.now.sym)
    c.args.certificate.now.items is) is)
