-- `taken_by_script`: clause `taken`, by `tape_read`.
use Rattle.nms_review.proofs.ReadFacts.{tape_read}
use Rattle.nms_review.proofs.tape.taking.taken_by_script.Goals as goal

pub returns-in-Ok-read_all-clause-taken : goal.returns-in-Ok-read_all-clause-taken
returns-in-Ok-read_all-clause-taken g c =
    let all = c.in-Ok-read_all.ensures.read (g.R.Read.remaining c.args.source) c.open_records-reader.ensures.reads in
    tape_read c.args.setup.now (g.R.Read.remaining c.args.source) c.read_all.new.taking.flow c.read_all.new.taking.sent.items
    c.tape_of.result.items all.0 all.2 all.1 c.tape_of.ensures
