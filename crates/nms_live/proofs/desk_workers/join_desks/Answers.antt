-- `join_desks`: clause `kept` and the turns of its loop, by `row_more` and `stands_at`.
use Rattle.std.proofs.Common.{ℕ, ◌≡◌, ◌++◌, ◌∷◌, [], length, ap, sym, subst, ◌∙◌, append_assoc, length-append, arith, rules}
use Rattle.std.proofs.lemmas.Grind.{common_steps}
use Rattle.std.specs.Prelude.{slice_index_or}
use Rattle.std.specs.Vec.Iter.{into_iter_items}
use Rattle.std.specs.declared.thread.PromisedHandle.{PromisedHandle}
use Rattle.nms_live.specs.Crew.{KeepsJob}
use Rattle.nms_live.specs.declared.desk_work.DeskJob.{DeskJob}
use Rattle.nms_live.specs.declared.desk_work.Desked.{Desked}
use Rattle.nms_live.proofs.PlaceFacts.{row_more, stands_at}
use Rattle.nms_live.proofs.desk_workers.join_desks.Goals as goal

pub loop-handle-preserved : goal.loop-handle-preserved
loop-handle-preserved g c =
    let at = c.loop-handle in
    let handle = c.in-Some.handle in
    let back = c.join.result in
    let rest = into_iter_items c.next.new.self in
    let handles = c.args.handles.items in
    let steps : into_iter_items at.handle-iterator ≡ handle ∷ rest = c.in-Some.ensures.steps.0 in
    let parted : (at.yielded ++ handle ∷ []) ++ rest ≡ handles = append_assoc at.yielded (handle ∷ []) rest
    ∙ rw (sym steps) at.invariant.parted in
    let pushed : c.push.new.self.items ≡ at.back.items ++ back ∷ [] = search rules in
    let P : ℕ → Desked → Type 0 = λ j r. (h : PromisedHandle Desked DeskJob) → KeepsJob (slice_index_or handles j h).promise r in
    let here : P (length at.back.items) back = λ h.
    let there : slice_index_or handles (length at.back.items) h ≡ handle =
    stands_at handles at.yielded handle rest (length at.back.items) h parted at.invariant.all in
    subst (λ (p : PromisedHandle Desked DeskJob). KeepsJob p.promise back) (sym there) c.join.ensures in
    record {
      parted = parted;
      all = omega (
        ap length pushed,
        length-append at.back.items (back ∷ []),
        length-append at.yielded (handle ∷ []),
        at.invariant.all,
        arith,
      );
      room = omega (arith, at.invariant.room, c.push.ensures.capacity);
      kept = λ k d below. rw pushed (row_more P at.back.items back at.invariant.kept here k d (rw (sym pushed) below));
    }

pub returns-clause-kept : goal.returns-clause-kept
returns-clause-kept g c = λ k d h below. c.loop-handle.invariant.kept k d below h

-- ---- goals that `grind` closes; the search that is tried before it takes longer

pub unreachable-unreachable : goal.unreachable-unreachable
unreachable-unreachable g c = grind (arith, common_steps)

pub loop-handle-init : goal.loop-handle-init
loop-handle-init g c = grind (arith, common_steps)
