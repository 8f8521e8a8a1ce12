-- `board_of`, `taken`: the text of a tape is read back as that tape, by `read_back`, and is not refused, by `only_memory`.
use Rattle.std.proofs.Common.{ap, arith, length}
use Rattle.nms_serving.proofs.ResumeFacts.{board_taken, only_memory, read_back, tape_text}
use Rattle.nms_serving.proofs.resuming.board_of.Goals as goal

pub returns-in-Err-clause-taken : goal.returns-in-Err-clause-taken
returns-in-Err-clause-taken c = λ tape fits limit is count.
    let settings = c.args.setup.now in
    let said = tape_text settings c.roster.result.now tape c.args.text.now c.changes_read_as_written.ensures c.roster.ensures
    c.a_text_has_one_list_of_records.ensures fits limit is in
    only_memory settings tape c.args.text.now c.in-Err.fault c.unread.result said c.in-Err.ensures.refused c.unread.ensures

pub returns-then-len-records-clause-taken : goal.returns-then-len-records-clause-taken
returns-then-len-records-clause-taken c = λ tape fits limit is count.
    let settings = c.args.setup.now in
    let said = tape_text settings c.roster.result.now tape c.args.text.now c.changes_read_as_written.ensures c.roster.ensures
    c.a_text_has_one_list_of_records.ensures fits limit is in
    let read = read_back settings tape c.in-Ok.changes.items c.args.text.now said c.in-Ok.ensures.tape in
    absurd (c.if-len-records.true (omega (arith, c.len.ensures, ap length read, count)))

pub returns-clause-taken : goal.returns-clause-taken
returns-clause-taken c = λ tape fits limit is count.
    let settings = c.args.setup.now in
    let said = tape_text settings c.roster.result.now tape c.args.text.now c.changes_read_as_written.ensures c.roster.ensures
    c.a_text_has_one_list_of_records.ensures fits limit is in
    let read = read_back settings tape c.in-Ok.changes.items c.args.text.now said c.in-Ok.ensures.tape in
    board_taken settings c.roster-2.result.now c.in-Ok-new.board c.apply_all.new.self c.deref.result.now c.in-Ok.changes.items tape
    c.apply_all.ensures.after c.in-Ok-new.ensures.opening c.roster-2.ensures c.deref.ensures.value read
