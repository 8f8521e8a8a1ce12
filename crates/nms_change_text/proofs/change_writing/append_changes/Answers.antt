-- `append_changes`: the turns of its loop, by `records_more`.
use Rattle.nms_lines.proofs.Offered.{records_more}
use Rattle.nms_change_text.specs.ChangeText.{change_record}
use Rattle.nms_change_text.proofs.change_writing.append_changes.Goals as goal

pub loop-change-preserved : goal.loop-change-preserved
loop-change-preserved c =
    records_more (change_record c.args.roster.now) c.args.changes.now c.loop-change.change-index c.change-item.result c.args.out.now.items
    c.loop-change.out.items c.append_change.new.out.items c.loop-change-test.true c.change-item.is c.loop-change.invariant
    c.in_ok-append_change.ensures
