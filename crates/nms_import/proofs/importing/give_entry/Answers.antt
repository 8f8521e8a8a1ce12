-- `give_entry`: clause `times`, by `one_time`.
use Rattle.nms_import.proofs.TextFacts.{always_on_ok, one_time}
use Rattle.nms_import.proofs.importing.give_entry.Goals as goal

pub returns-clause-times : goal.returns-clause-times
returns-clause-times g c =
    always_on_ok c.note_entry.result
    (one_time c.args.numbers c.args.number c.args.entry.now (g.T.Write.contents c.args.times.now)
    (g.T.Write.contents c.write_entry.new.times) c.in_ok-write_entry.ensures.times)
