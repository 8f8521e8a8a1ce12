-- `start_desks`: its loop (the turns by `row_more` and `stands_at`), what it calls and its last return.
use Rattle.std.proofs.Common.{ℕ, ◌≡◌, ◌++◌, ◌∷◌, [], length, refl, ap, sym, subst, ◌∙◌, append_assoc, length-append, arith, rules}
use Rattle.std.proofs.lemmas.Grind.{common_steps}
use Rattle.std.specs.Prelude.{slice_index_or}
use Rattle.std.specs.Vec.Iter.{into_iter_items}
use Rattle.std.specs.declared.thread.PromisedHandle.{PromisedHandle}
use Rattle.nms_quote.specs.Roster.{sizes_of}
use Rattle.nms_versions.specs.Taped.{Knowing}
use Rattle.nms_live.specs.Answering.{numbered, own}
use Rattle.nms_live.specs.Crew.{WillBeDesked}
use Rattle.nms_live.specs.declared.desk_work.DeskJob.{DeskJob}
use Rattle.nms_live.specs.declared.desk_work.Desked.{Desked}
use Rattle.nms_live.proofs.PlaceFacts.{all_through, place_below, row_more, row_next, row_none, stands_at}
use Rattle.nms_live.proofs.desk_workers.start_desks.Goals as goal

pub loop-desk-preserved : goal.loop-desk-preserved
loop-desk-preserved g c =
    let at = c.loop-desk in
    let desk = c.in-Some.desk in
    let handle = c.in-Some-start_desk.handle in
    let pushed : c.push.new.self.items ≡ at.handles.items ++ handle ∷ [] = c.in-Ok.ensures.items in
    let rest = into_iter_items c.next.new.self in
    let steps : into_iter_items at.desk-iterator ≡ desk ∷ rest = c.in-Some.ensures.steps.0 in
    let parted : (at.yielded ++ desk ∷ []) ++ rest ≡ c.args.desks.items = append_assoc at.yielded (desk ∷ []) rest
    ∙ rw (sym steps) at.invariant.parted in
    let place : length at.handles.items ≡ at.number = at.invariant.all in
    record {
      parted = parted;
      count = omega (arith, at.invariant.count, length-append at.yielded (desk ∷ []));
      all = omega (arith, place, ap length pushed, length-append at.handles.items (handle ∷ []));
      room = omega (arith, at.invariant.room, c.push.ensures.capacity);
      started = λ k d h below.
          let P : ℕ → PromisedHandle Desked DeskJob → Type 0 =
          λ j r. WillBeDesked c.args.given.now.setup.now (own j (numbered c.args.given.now.orders.items))
          (slice_index_or c.args.desks.items j d) r in
          let there : slice_index_or c.args.desks.items at.number d ≡ desk =
          stands_at c.args.desks.items at.yielded desk rest at.number d parted at.invariant.count in
          let here : P at.number handle =
          subst (λ (e : Knowing). WillBeDesked c.args.given.now.setup.now (own at.number (numbered c.args.given.now.orders.items)) e handle)
          (sym there)
          c.in-Some-start_desk.ensures.started in
          let last : P (length at.handles.items) handle = rw place here in
          rw pushed (row_more P at.handles.items handle (λ j e lt. at.invariant.started j d e lt) last k h (rw (sym pushed) below));
    }

pub loop-desk-init : goal.loop-desk-init
loop-desk-init g c =
    let empty = c.reserve.ensures.items ∙ c.new-handles.ensures.items in
    record {
      parted = c.into_iter-desk-iterator.ensures.into_iter_gives.0;
      count = refl;
      all = ap length empty;
      room = search rules;
      started = λ k d h below. row_none (λ j r. WillBeDesked c.args.given.now.setup.now (own j (numbered c.args.given.now.orders.items))
          (slice_index_or c.args.desks.items j d) r) c.reserve.new.self.items empty k h below;
    }

pub start_desk-requires-clause-place : goal.start_desk-requires-clause-place
start_desk-requires-clause-place g c = λ loans lives.
    let at = c.loop-desk in
    let inv = at.invariant in
    rw (sym c.requires.all) (place_below c.args.desks.items at.yielded c.in-Some.desk (into_iter_items at.desk-iterator)
    (into_iter_items c.next.new.self) at.number inv.parted c.in-Some.ensures.steps.0 inv.count)

pub start_desk-requires-clause-sizes : goal.start_desk-requires-clause-sizes
start_desk-requires-clause-sizes g c = λ loans lives.
    let at = c.loop-desk in
    let inv = at.invariant in
    row_next (λ _ (d : Knowing). d.sizes ≡ sizes_of c.args.given.now.setup.now.roster) c.args.desks.items at.yielded c.in-Some.desk
    (into_iter_items at.desk-iterator) (into_iter_items c.next.new.self) at.number inv.parted c.in-Some.ensures.steps.0 inv.count
    c.requires.sizes

pub overflow_add-number : goal.overflow_add-number
overflow_add-number g c =
    let at = c.loop-desk in
    let inv = at.invariant in
    let here = place_below c.args.desks.items at.yielded c.in-Some.desk (into_iter_items at.desk-iterator)
    (into_iter_items c.next.new.self) at.number inv.parted c.in-Some.ensures.steps.0 inv.count in
    omega (arith, here, c.requires.all, c.desks-most.ensures.value, c.desks-most.ensures.high)

pub returns : goal.returns
returns g c =
    let at = c.loop-desk in
    let inv = at.invariant in
    record {
      all = inv.all ∙ inv.count
          ∙ all_through c.args.desks.items at.yielded (into_iter_items at.desk-iterator) inv.parted
          (sym at.desk-iterator.rest.ok.0 ∙ c.in-None.ensures.steps.0);
      started = inv.started;
      fault = tt;
    }

-- ---- goals that `grind` closes; the search that is tried before it takes longer

pub returns-in-None-start_desk-clause-started : goal.returns-in-None-start_desk-clause-started
returns-in-None-start_desk-clause-started g c = grind (arith, common_steps)

pub unreachable-unreachable : goal.unreachable-unreachable
unreachable-unreachable g c = grind (arith, common_steps)

pub loop-desk-init-derived : goal.loop-desk-init-derived
loop-desk-init-derived g c = grind (arith, common_steps)
