-- `answer_orders`: its loop (the turns by `take_more` and `so_far_more`), what it calls and its returns.
use Rattle.std.proofs.Common.{arith, ◌≡◌, ◌++◌, ◌∷◌, [], List, refl, take, ap, sym, subst, ◌∙◌}
use Rattle.std.proofs.lemmas.Grind.{common_steps}
use Rattle.std.proofs.lemmas.List.{take_all}
use Rattle.nms_quote.specs.Roster.{sizes_of}
use Rattle.nms_quote.specs.Tape.{Tape}
use Rattle.nms_fees.specs.Settings.{Settings}
use Rattle.nms_versions.specs.Taped.{Knowing}
use Rattle.nms_live.specs.Planning.{answer_to}
use Rattle.nms_live.proofs.AnswerFacts.{take_more}
use Rattle.nms_live.proofs.DeskFacts.{IsBestStep, so_far_more, so_far_start, worked_so_far}
use Rattle.nms_live.proofs.desk_work.answer_orders.Goals as goal

pub returns-in-Err-push-clause-knows : goal.returns-in-Err-push-clause-knows
returns-in-Err-push-clause-knows g c =
    let best = c.in-Ok.ensures.best in
    let knows = c.loop-place.invariant.so_far.knows in
    (best.0 ∷ knows.0, best.1 ∙ ap (λ (k : List Tape). best.0 ∷ k) knows.1)

pub loop-place-preserved : goal.loop-place-preserved
loop-place-preserved g c =
    let order = c.index-orders-place.result in
    let place = c.loop-place.place in
    let orders = c.args.orders.now in
    let answer = answer_to order c.plan_one.new.planning.planner in
    let best = subst (IsBestStep answer c.loop-place.desk.known c.plan_one.new.desk.known) c.loop-place.invariant.setup c.in-Ok.ensures.best in
    let pushed : c.push.new.self.items ≡ c.loop-place.answers.items ++ answer ∷ [] = c.in-Ok-push.ensures.ok in
    record {
      opening = c.plan_one.ensures.same.0 ∙ c.loop-place.invariant.opening;
      sizes = c.plan_one.ensures.same.1 ∙ c.loop-place.invariant.sizes;
      setup = c.plan_one.ensures.setup ∙ c.loop-place.invariant.setup;
      so_far = rw (take_more orders place order c.loop-place-test.true (sym c.index-orders-place.is), pushed)
          (so_far_more c.args.setup.now (take place orders) order c.args.desk.now.known
          c.loop-place.desk.known c.plan_one.new.desk.known c.loop-place.answers.items answer best.0
          c.in-Ok.ensures.order best.1 best.2 best.3 best.4 c.loop-place.invariant.so_far);
    }

pub loop-place-init : goal.loop-place-init
loop-place-init g c = record {
  opening = refl;
  sizes = refl;
  setup = c.new-planning.ensures;
  so_far = rw c.none-answers.ensures (so_far_start c.args.setup.now c.args.desk.now.known);
}

pub plan_one-requires-clause-sizes : goal.plan_one-requires-clause-sizes
plan_one-requires-clause-sizes g c = λ loans lives.
    c.loop-place.invariant.sizes ∙ c.requires.sizes
    ∙ ap (λ (s : Settings). sizes_of s.roster) (sym c.loop-place.invariant.setup)

pub returns-in-Err : goal.returns-in-Err
returns-in-Err g c =
    let inv = c.loop-place.invariant in
    let same = c.plan_one.ensures.same in
    let knows = inv.so_far.knows in
    record {
      same = (same.0 ∙ inv.opening, same.1 ∙ inv.sizes);
      worked = tt;
      knows = (knows.0, ap (λ (d : Knowing). d.known) c.in-Err.ensures.unchanged ∙ knows.1);
      later = tt;
      fault = c.in-Err.ensures.fault;
    }

pub returns : goal.returns
returns g c =
    let inv = c.loop-place.invariant in
    let place = c.loop-place.place in
    let orders = c.args.orders.now in
    record {
      same = (inv.opening, inv.sizes);
      worked = rw (sym (take_all place orders c.loop-place-test.false)) (worked_so_far c.args.setup.now (take place orders)
          c.args.desk.now.known c.loop-place.desk.known c.loop-place.answers.items inv.so_far);
      knows = inv.so_far.knows;
      later = inv.so_far.later;
      fault = tt;
    }

-- ---- goals that `grind` closes; the search that is tried before it takes longer

pub returns-in-Err-push-clause-same : goal.returns-in-Err-push-clause-same
returns-in-Err-push-clause-same g c = grind (arith, common_steps)

pub returns-in-Err-push-clause-worked : goal.returns-in-Err-push-clause-worked
returns-in-Err-push-clause-worked g c = grind (arith, common_steps)

pub returns-in-Err-push-clause-later : goal.returns-in-Err-push-clause-later
returns-in-Err-push-clause-later g c = grind (arith, common_steps)

pub returns-in-Err-push-clause-fault : goal.returns-in-Err-push-clause-fault
returns-in-Err-push-clause-fault g c = grind (arith, common_steps)
