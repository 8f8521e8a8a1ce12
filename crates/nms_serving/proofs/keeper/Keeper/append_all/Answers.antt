-- `append_all`: the turns of its loop, by `added_more`.
use Rattle.std.proofs.Common.{◌∙◌}
use Rattle.nms_serving.proofs.KeeperFacts.{added_more, one_more, one_more_leaves}
use Rattle.nms_serving.proofs.keeper.Keeper.append_all.Goals as goal

pub loop-change-preserved : goal.loop-change-preserved
loop-change-preserved g c =
    let now = c.loop-change.self in
    let later = c.append.new.self in
    let change = c.change-item.result in
    let left = one_more_leaves now later change c.in-Ok.ensures.added in
    record {
      added = added_more c.args.self.now.publisher now.publisher later.publisher c.args.first.now c.loop-change.change-index change
          c.loop-change-test.true c.change-item.is c.loop-change.invariant.added (one_more now later change c.in-Ok.ensures.added);
      tape = left.0 ∙ c.loop-change.invariant.tape;
      lengths = left.1 ∙ c.loop-change.invariant.lengths;
      roster = left.2 ∙ c.loop-change.invariant.roster;
      published = left.3 ∙ c.loop-change.invariant.published;
    }
