-- `confirm`: clauses `accepted` and `optimal`, by `accepted_of_none`, `none_of_accepted` and `optimal`.
use Rattle.std.proofs.Common.{◌≡◌, IsNone, None, Some, Option, refl, ap, sym, ◌∙◌}
use Rattle.std.specs.Option.{is_some}
use Rattle.std.specs.Result.{result_err}
use Rattle.std.proofs.lemmas.Bool.{false≢true}
use Rattle.nms_rules.specs.Breach.{breach_of}
use Rattle.nms_rules.specs.declared.breach_kind.Breach.{Breach}
use Rattle.nms_cert.specs.Doubts.{doubt_of}
use Rattle.nms_cert.proofs.AcceptedLemmas.{accepted_of_none, none_of_accepted}
use Rattle.nms_cert.proofs.OkLemmas.{none-ok, of-ok, ok-none, on-ok}
use Rattle.nms_rules.proofs.Offered.{optimal}
use Rattle.nms_cert.proofs.confirming.confirm.Goals as goal

none-is : (found : Option Breach) → IsNone found → found ≡ None
none-is None none = refl
none-is (Some breach) none = absurd (false≢true (sym none))

is-none : (found : Option Breach) → found ≡ None → IsNone found
is-none found e = ap is_some e

pub returns-clause-accepted : goal.returns-clause-accepted
returns-clause-accepted c =
    let seen = c.args.view.now in
    let asked = c.args.order.now in
    let fees = c.args.fees.now in
    let plan = c.args.plan.now in
    let cuts = c.args.certificate.now.items in
    let lawful = c.find_doubt.ensures.lawful in
    let first : result_err c.find_doubt.result ≡ doubt_of seen asked fees plan cuts = c.find_doubt.ensures.first
    ∙ ap (doubt_of seen asked fees plan) c.as_slice.ensures.value in (
      (λ ok. accepted_of_none seen asked fees plan cuts (λ none. lawful.0 (is-none (breach_of seen asked fees plan) none))
          (sym first ∙ ok-none c.find_doubt.result ok)),
      (λ is. none-ok c.find_doubt.result
          (first ∙ none_of_accepted seen asked fees plan cuts (λ faultless. none-is (breach_of seen asked fees plan) (lawful.1 faultless))
          is)),
    )

pub returns-clause-optimal : goal.returns-clause-optimal
returns-clause-optimal c = on-ok c.find_doubt.result _
    (λ ok. optimal c.args.view.now c.args.order.now c.args.fees.now c.args.plan.now c.args.certificate.now.items
    (of-ok c.find_doubt.result _ c.find_doubt.ensures.rising ok) ((returns-clause-accepted c).0 ok))
