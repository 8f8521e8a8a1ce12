-- `write_changes`: clause `part` and the turns of its loop, by `part_on` and `written_on`.
use Rattle.std.proofs.Common.{rules, ◌≡◌, Err}
use Rattle.nms_review.proofs.WriteFacts.{part_on, written_on}
use Rattle.nms_review.proofs.tape.writing.write_changes.Goals as goal

pub returns-in_err-write_change-clause-part : goal.returns-in_err-write_change-clause-part
returns-in_err-write_change-clause-part g c =
    let is_fault : c.from_residual.result ≡ Err c.in_err-write_change.field-0.0 = search rules in
    rw is_fault (part_on c.args.roster.now c.args.changes.now c.loop-change.change-index c.change-item.result
    (g.W.Write.contents c.args.out.now) (g.W.Write.contents c.loop-change.out) (g.W.Write.contents c.write_change.new.out)
    c.loop-change-test.true c.change-item.is c.loop-change.invariant c.in_err-write_change.ensures.part)

pub loop-change-preserved : goal.loop-change-preserved
loop-change-preserved g c =
    written_on c.args.roster.now c.args.changes.now c.loop-change.change-index c.change-item.result
    (g.W.Write.contents c.args.out.now) (g.W.Write.contents c.loop-change.out) (g.W.Write.contents c.write_change.new.out)
    c.loop-change-test.true c.change-item.is c.loop-change.invariant c.in_ok-write_change.ensures.written
