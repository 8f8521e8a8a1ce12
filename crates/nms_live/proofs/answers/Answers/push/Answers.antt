-- `Answers::push`: legs and cuts are put behind first, which changes no answer, by `same_answers` and `heads_stay`; then the head,
-- by `more_answers`, `more_heads` and `answer_made`.
use Rattle.std.proofs.Common.{map, ap, ◌∙◌, Result, Ok, Err, OnErr, OnOk}
use Rattle.nms_live.specs.Held.{answer_of}
use Rattle.nms_live.proofs.HeldFacts.{Grown, answer_made, has_none, heads_stay, more_answers, more_heads, same_answers}
use Rattle.nms_live.proofs.answers.Answers.push.Goals.{in-Ok, in-Err}
use Rattle.nms_live.proofs.answers.Answers.push.Goals as goal

on_err : {A B : Type 0} (r : Result A B) (P : Type 0) → P → OnErr r P
on_err (Ok a) P is = tt
on_err (Err b) P is = is

on_ok : {A B : Type 0} (r : Result A B) (P : Type 0) → P → OnOk r P
on_ok (Ok a) P is = is
on_ok (Err b) P is = tt

pub returns-in_err-legs-clause-err : goal.returns-in_err-legs-clause-err
returns-in_err-legs-clause-err c =
    let grown : Grown = record {
      legs = c.self.inside.legs.items;
      legs_now = c.put_behind.new.all.items;
      cuts = c.self.inside.cuts.items;
      cuts_now = c.self.inside.cuts.items;
      more_legs = c.put_behind.ensures.kept;
      more_cuts = has_none c.self.inside.cuts.items;
    } in
    on_err _ _ (same_answers grown c.self.inside.heads.items c.args.self.now c.self.invariant c.self.view_is)

pub invariant_of-self-in_err-cuts : goal.invariant_of-self-in_err-cuts
invariant_of-self-in_err-cuts c =
    let grown : Grown = record {
      legs = c.self.inside.legs.items;
      legs_now = c.put_behind.new.all.items;
      cuts = c.self.inside.cuts.items;
      cuts_now = c.put_behind-2.new.all.items;
      more_legs = c.put_behind.ensures.kept;
      more_cuts = c.put_behind-2.ensures.kept;
    } in
    heads_stay grown c.self.inside.heads.items c.self.invariant

pub returns-in_err-cuts-clause-err : goal.returns-in_err-cuts-clause-err
returns-in_err-cuts-clause-err c =
    let grown : Grown = record {
      legs = c.self.inside.legs.items;
      legs_now = c.put_behind.new.all.items;
      cuts = c.self.inside.cuts.items;
      cuts_now = c.put_behind-2.new.all.items;
      more_legs = c.put_behind.ensures.kept;
      more_cuts = c.put_behind-2.ensures.kept;
    } in
    on_err _ _ (same_answers grown c.self.inside.heads.items c.args.self.now c.self.invariant c.self.view_is)

pub invariant_of-self-2 : goal.invariant_of-self-2
invariant_of-self-2 c =
    let grown : Grown = record {
      legs = c.self.inside.legs.items;
      legs_now = c.put_behind.new.all.items;
      cuts = c.self.inside.cuts.items;
      cuts_now = c.put_behind-2.new.all.items;
      more_legs = c.put_behind.ensures.kept;
      more_cuts = c.put_behind-2.ensures.kept;
    } in
    elim c.match-push_back.branch [
      | in-Ok w ↦ more_heads grown c.self.inside.heads.items c.push_back.new.self.items _ c.self.invariant w.in-Ok.ensures.items
          (record { legs_in = c.in_ok-legs.ensures.span; cuts_in = c.in_ok-cuts.ensures.span })
      | in-Err w ↦ rw w.in-Err.ensures.items (heads_stay grown c.self.inside.heads.items c.self.invariant)
    ]

pub returns-clause-ok : goal.returns-clause-ok
returns-clause-ok c =
    let grown : Grown = record {
      legs = c.self.inside.legs.items;
      legs_now = c.put_behind.new.all.items;
      cuts = c.self.inside.cuts.items;
      cuts_now = c.put_behind-2.new.all.items;
      more_legs = c.put_behind.ensures.kept;
      more_cuts = c.put_behind-2.ensures.kept;
    } in
    elim c.match-push_back.branch [
      | in-Ok w ↦ on_ok _ _ (more_answers grown c.self.inside.heads.items c.push_back.new.self.items _ _ c.args.self.now c.self.invariant
          c.self.view_is w.in-Ok.ensures.items
          (answer_made c.args.order.now c.args.planner.now c.plan-plan.result.now c.put_behind.new.all.items c.put_behind-2.new.all.items
          c.in_ok-legs.legs c.in_ok-cuts.cuts c.plan-plan.ensures (c.in_ok-legs.ensures.there ∙ c.as_slice.ensures.value)
          (c.in_ok-cuts.ensures.there ∙ c.as_slice-2.ensures.value ∙ c.certificate.ensures)))
      | in-Err w ↦ rw w.result-is tt
    ]

pub returns-clause-err : goal.returns-clause-err
returns-clause-err c =
    let grown : Grown = record {
      legs = c.self.inside.legs.items;
      legs_now = c.put_behind.new.all.items;
      cuts = c.self.inside.cuts.items;
      cuts_now = c.put_behind-2.new.all.items;
      more_legs = c.put_behind.ensures.kept;
      more_cuts = c.put_behind-2.ensures.kept;
    } in
    elim c.match-push_back.branch [
      | in-Ok w ↦ rw w.result-is tt
      | in-Err w ↦ on_err _ _ (ap (map (answer_of c.put_behind.new.all.items c.put_behind-2.new.all.items)) w.in-Err.ensures.items
          ∙ same_answers grown c.self.inside.heads.items c.args.self.now c.self.invariant c.self.view_is)
    ]
