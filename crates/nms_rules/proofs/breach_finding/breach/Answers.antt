-- `breach`: clause `lawful`, by `faultless_of_none` and `none_of_faultless`.
use Rattle.std.proofs.Common.{◌≡◌, IsNone, None, Some, Option, refl, ap, sym, ◌∙◌}
use Rattle.std.specs.Option.{is_some}
use Rattle.std.proofs.lemmas.Bool.{false≢true}
use Rattle.nms_rules.specs.declared.breach_kind.Breach.{Breach}
use Rattle.nms_rules.proofs.LawfulLemmas.{faultless_of_none, none_of_faultless}
use Rattle.nms_rules.proofs.breach_finding.breach.Goals as goal

none-is : (found : Option Breach) → IsNone found → found ≡ None
none-is None none = refl
none-is (Some breach) none = absurd (false≢true (sym none))

is-none : (found : Option Breach) → found ≡ None → IsNone found
is-none found e = ap is_some e

pub returns-clause-lawful : goal.returns-clause-lawful
returns-clause-lawful c =
    let same = sym c.find_breach.ensures.first in
    let bids = c.find_breach.ensures.bids in
    let offers = c.find_breach.ensures.offers in (
      (λ none. faultless_of_none c.args.view.now c.args.order.now c.args.fees.now c.args.plan.now bids offers
          (same ∙ none-is c.find_breach.result none)),
      (λ is. is-none c.find_breach.result (sym same
          ∙ none_of_faultless c.args.view.now c.args.order.now c.args.fees.now c.args.plan.now bids offers is)),
    )
