-- `a_served_epoch_is_a_script`: all that it promises, by `one_script`.
use Rattle.std.proofs.Common.{subst, arith}
use Rattle.nms_change_text.specs.ReadBack.{ChangesReadAsWritten}
use Rattle.nms_answers.proofs.MergeFacts.{one_script}
use Rattle.nms_answers.proofs.served_laws.a_served_epoch_is_a_script.Goals as goal

pub returns : goal.returns
returns c = λ epoch is.
    one_script c.args.setup.now epoch (omega (arith, c.queue-room.ensures))
    (subst ChangesReadAsWritten c.roster.ensures c.changes_read_as_written.ensures) c.tape_and_queue_are_a_merge.ensures.belonging is
