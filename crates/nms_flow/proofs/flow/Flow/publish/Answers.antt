-- `Flow::publish`: all that it promises and the invariant of what it leaves, by `went_published`.
use Rattle.std.proofs.Common.{◌≡◌, ◌-◌, true, length, arith, ap, sym, subst, refl, ◌∙◌}
use Rattle.std.specs.Prelude.{All}
use Rattle.std.proofs.lemmas.List.{length-drop}
use Rattle.std.proofs.lemmas.List.Elements.{All-drop}
use Rattle.nms_quote.specs.Roster.{Sizes, holds}
use Rattle.nms_quote.specs.declared.marked.Marked.{Marked}
use Rattle.nms_flow.specs.Run.{Room}
use Rattle.nms_flow.proofs.StepLemmas.{went_published}
use Rattle.nms_flow.proofs.flow.Flow.publish.Goals as goal

pub invariant_of-self : goal.invariant_of-self
invariant_of-self c =
    let inside = c.self.inside in
    let sound = c.self.invariant in
    let sizes = c.apply_first.ensures.sizes in
    let rest : length c.drop_front.new.queue.items ≡ length inside.changes.items - inside.pending = ap length c.drop_front.ensures.items
    ∙ length-drop inside.pending inside.changes.items in record {
      held = subst (λ (s : Sizes). All (λ marked. holds s marked.change ≡ true) c.drop_front.new.queue.items) (sym sizes)
          (rw c.drop_front.ensures.items (All-drop (λ (marked : Marked). holds inside.board.sizes marked.change ≡ true) inside.pending
          inside.changes.items sound.held));
      pending = omega arith;
      queued = omega (arith, rest, sound.queued);
      taken = omega (arith, c.apply_first.ensures.applied, sound.taken);
      limit = sound.limit;
      room = omega (arith, c.drop_front.ensures.capacity, sound.room);
    }

pub returns : goal.returns
returns c = record {
  went = rw (← c.self.view_is) (went_published _ _ c.applied.result (ap (λ (s : Sizes). with_sizes s) c.apply_first.ensures.sizes)
      c.self.invariant.pending
      c.drop_front.ensures.items refl c.apply_first.ensures.stands (c.applied.ensures.count ∙ c.apply_first.ensures.applied));
}
  where
    with_sizes : Sizes → Room
    with_sizes s = record { sizes = s; queue = c.self.inside.most_queued; tape = c.self.inside.most_taken }
