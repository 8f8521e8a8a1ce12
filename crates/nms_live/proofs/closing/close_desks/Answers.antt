-- `close_desks`: its loop (the turns by `row_more`), what it calls and its returns.
use Rattle.std.proofs.Common.{ℕ, ◌≡◌, ◌++◌, ◌∷◌, [], None, length, refl, ap, sym, subst, ◌∙◌, append_assoc, length-append, arith}
use Rattle.std.proofs.lemmas.Grind.{common_steps}
use Rattle.std.specs.Vec.Iter.{into_iter_items}
use Rattle.nms_versions.specs.Taped.{tape_of}
use Rattle.nms_live.specs.Answering.{IsClosed}
use Rattle.nms_live.specs.Crew.{IsBack}
use Rattle.nms_live.specs.Keeping.{IsWhole, Keeping}
use Rattle.nms_live.specs.declared.closing.DeskRow.{DeskRow}
use Rattle.nms_live.specs.declared.desk_work.Desked.{Desked}
use Rattle.nms_live.proofs.PlaceFacts.{all_through, place_below, row_more, row_next, row_none}
use Rattle.nms_live.proofs.closing.close_desks.Goals as goal

pub loop-desked-preserved : goal.loop-desked-preserved
loop-desked-preserved g c =
    let at = c.loop-desked in
    let desk = c.in-Some.desked in
    let row = c.in-Ok.row in
    let rest = into_iter_items c.next.new.self in
    let keeper = c.args.keeper.now in
    let steps : into_iter_items at.desked-iterator ≡ desk ∷ rest = c.in-Some.ensures.steps.0 in
    let pushed : c.push.new.self.items ≡ at.rows.items ++ row ∷ [] = c.in-Ok-push.ensures.items in
    let place : length at.rows.items ≡ at.number = at.invariant.all in
    let P : ℕ → DeskRow → Type 0 = λ j r. IsClosed c.args.given.now.setup.now j c.args.given.now.orders.items (tape_of keeper.taped)
    keeper.listed r in
    let here : P at.number row = subst (λ (k : Keeping). IsClosed c.args.given.now.setup.now at.number c.args.given.now.orders.items
    (tape_of k.taped) k.listed row) at.invariant.keeper c.in-Ok.ensures.row in
    let last : P (length at.rows.items) row = rw place here in
    record {
      parted = append_assoc at.yielded (desk ∷ []) rest ∙ rw (sym steps) at.invariant.parted;
      count = omega (arith, at.invariant.count, length-append at.yielded (desk ∷ []));
      all = omega (arith, place, ap length pushed, length-append at.rows.items (row ∷ []));
      keeper = c.close_desk.ensures.unchanged ∙ at.invariant.keeper;
      rows = λ k d below. rw pushed (row_more P at.rows.items row at.invariant.rows last k d (rw (sym pushed) below));
    }

pub loop-desked-init : goal.loop-desked-init
loop-desked-init g c = record {
  parted = c.into_iter-desked-iterator.ensures.into_iter_gives.0;
  count = refl;
  all = ap length c.new-rows.ensures.items;
  keeper = refl;
  rows = row_none (λ j r. IsClosed c.args.given.now.setup.now j c.args.given.now.orders.items (tape_of c.args.keeper.now.taped)
      c.args.keeper.now.listed r) c.new-rows.result.items c.new-rows.ensures.items;
}

pub close_desk-requires : goal.close_desk-requires
close_desk-requires g c =
    let at = c.loop-desked in
    let inv = at.invariant in
    let desk = c.in-Some.desked in
    let back = into_iter_items at.desked-iterator in
    let rest = into_iter_items c.next.new.self in
    let next = c.in-Some.ensures.steps.0 in
    record {
      whole = subst IsWhole (sym inv.keeper) c.requires.whole;
      place = rw (sym c.requires.all) (place_below c.args.desks.items at.yielded desk back rest at.number inv.parted next inv.count);
      back = rw inv.keeper (row_next (IsBack c.args.given.now.setup.now c.args.given.now.orders.items c.args.keeper.now.taped.opening)
          c.args.desks.items at.yielded desk back rest at.number inv.parted next inv.count c.requires.back);
      ended = row_next (λ _ (d : Desked). d.stop ≡ None) c.args.desks.items at.yielded desk back rest at.number inv.parted next inv.count
          c.requires.ended;
    }

pub overflow_add-number : goal.overflow_add-number
overflow_add-number g c =
    let at = c.loop-desked in
    let inv = at.invariant in
    let here = place_below c.args.desks.items at.yielded c.in-Some.desked (into_iter_items at.desked-iterator)
    (into_iter_items c.next.new.self) at.number inv.parted c.in-Some.ensures.steps.0 inv.count in
    omega (arith, here, c.requires.all, c.desks-most.ensures.value, c.desks-most.ensures.high)

pub returns : goal.returns
returns g c =
    let at = c.loop-desked in
    let inv = at.invariant in
    record {
      unchanged = inv.keeper;
      all = inv.all ∙ inv.count
          ∙ all_through c.args.desks.items at.yielded (into_iter_items at.desked-iterator) inv.parted
          (sym at.desked-iterator.rest.ok.0 ∙ c.in-None.ensures.steps.0);
      rows = inv.rows;
      fault = tt;
    }

pub returns-in-Err : goal.returns-in-Err
returns-in-Err g c = record {
  unchanged = c.close_desk.ensures.unchanged ∙ c.loop-desked.invariant.keeper;
  all = tt;
  rows = tt;
  fault = c.in-Err.ensures.fault;
}

-- ---- goals that `grind` closes; the search that is tried before it takes longer

pub returns-in-Err-push-clause-unchanged : goal.returns-in-Err-push-clause-unchanged
returns-in-Err-push-clause-unchanged g c = grind (arith, common_steps)

pub returns-in-Err-push-clause-fault : goal.returns-in-Err-push-clause-fault
returns-in-Err-push-clause-fault g c = grind (arith, common_steps)

pub returns-in-Err-push-clause-rows : goal.returns-in-Err-push-clause-rows
returns-in-Err-push-clause-rows g c = grind (arith, common_steps)

pub returns-in-Err-push-clause-all : goal.returns-in-Err-push-clause-all
returns-in-Err-push-clause-all g c = grind (arith, common_steps)

pub loop-desked-init-derived : goal.loop-desked-init-derived
loop-desked-init-derived g c = grind (arith, common_steps)

pub loop-desked-preserved-derived : goal.loop-desked-preserved-derived
loop-desked-preserved-derived g c = grind (arith, common_steps)
