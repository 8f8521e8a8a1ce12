-- `Flow::sent_at`: the change at the place, by `sent_there`.
use Rattle.std.proofs.Common.{◌≡◌, ◌-◌, ◌<◌, ◌≤◌, ◌∙◌, ap, arith, inl, inr, length, refl, slice_get, subst, sym, None, Some}
use Rattle.std.proofs.lemmas.Grind.{common_steps}
use Rattle.std.specs.Prelude.{option_map}
use Rattle.std.proofs.lemmas.Bool.{cases_lt}
use Rattle.std.proofs.lemmas.Option.{slice_get_past, slice_get_read}
use Rattle.nms_quote.specs.declared.marked.Marked.{Marked}
use Rattle.nms_flow.specs.Flow.{State, StandsAt}
use Rattle.nms_flow.proofs.StepLemmas.{sent_there}
use Rattle.nms_flow.proofs.flow.Flow.sent_at.Goals as goal

pub returns-in-Some : goal.returns-in-Some
returns-in-Some c = λ at h behind.
    let kept = c.self.inside.changes.items in
    let since = c.in_ok-since.since in
    let there : slice_get kept since ≡ Some c.in-Some.marked.now =
    slice_get_read kept (length kept) since c.in-Some.marked.now refl
    (subst (λ n. since < n) c.self.inside.changes.ok.0 (c.in-Some.ensures.variant.0 refl)) c.in-Some.ensures.lookup in
    sym (ap (option_map (λ (m : Marked). m.change)) there)
    ∙ sent_there _ at c.args.place since (subst (λ (s : State). StandsAt s at) (sym c.self.view_is) h) behind
    (c.in_ok-since.ensures.1 ∙ ap (λ n. c.args.place - n) c.applied.ensures.count)

pub returns-in-None : goal.returns-in-None
returns-in-None c = λ at h behind.
    let kept = c.self.inside.changes.items in
    let since = c.in_ok-since.since in
    let past : length kept ≤ since = elim (cases_lt since (length kept)) [
      | inl within ↦
          let here = c.in-None.ensures.variant.1 (subst (λ n. since < n) (sym c.self.inside.changes.ok.0) within) in
          let nothing : ⊥ = cc in absurd nothing
      | inr past ↦ past
    ] in
    sym (ap (option_map (λ (m : Marked). m.change)) (slice_get_past kept since past))
    ∙ sent_there _ at c.args.place since (subst (λ (s : State). StandsAt s at) (sym c.self.view_is) h) behind
    (c.in_ok-since.ensures.1 ∙ ap (λ n. c.args.place - n) c.applied.ensures.count)

-- ---- goals that `grind` closes; the search that is tried before it takes longer

pub returns-in_err-since : goal.returns-in_err-since
returns-in_err-since c = grind (arith, common_steps)
