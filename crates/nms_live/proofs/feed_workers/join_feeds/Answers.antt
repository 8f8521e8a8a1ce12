-- `join_feeds`: its loop with one worker more, by `zip_more`.
use Rattle.std.proofs.Common.{◌≡◌, ◌++◌, ◌∷◌, [], length, ap, sym, ◌∙◌, append_assoc, length-append, arith, rules}
use Rattle.std.proofs.lemmas.Grind.{common_steps}
use Rattle.std.specs.Vec.Iter.{into_iter_items}
use Rattle.nms_live.specs.Crew.{HasKept}
use Rattle.nms_live.proofs.FedFacts.{zip_more}
use Rattle.nms_live.proofs.feed_workers.join_feeds.Goals as goal

pub loop-handle-preserved : goal.loop-handle-preserved
loop-handle-preserved g c =
    let at = c.loop-handle in
    let handle = c.in-Some.handle in
    let back = c.join.result in
    let rest = into_iter_items c.next.new.self in
    let steps : into_iter_items at.handle-iterator ≡ handle ∷ rest = c.in-Some.ensures.steps.0 in
    let pushed : c.push.new.self.items ≡ at.back.items ++ back ∷ [] = search rules in
    record {
      parted = append_assoc at.yielded (handle ∷ []) rest ∙ rw (sym steps) at.invariant.parted;
      all = omega (
        ap length pushed,
        length-append at.back.items (back ∷ []),
        length-append at.yielded (handle ∷ []),
        at.invariant.all,
        arith,
      );
      room = omega (arith, at.invariant.room, c.push.ensures.capacity);
      kept = rw pushed (zip_more HasKept at.yielded at.back.items handle back at.invariant.kept c.join.ensures);
    }

-- ---- goals that `grind` closes; the search that is tried before it takes longer

pub loop-handle-init : goal.loop-handle-init
loop-handle-init g c = grind (arith, common_steps)
