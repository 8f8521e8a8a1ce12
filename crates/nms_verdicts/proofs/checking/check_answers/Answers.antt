-- `check_answers`: by `checked_on`.
use Rattle.nms_verdicts.proofs.CheckFacts.{checked_on}
use Rattle.nms_verdicts.proofs.checking.check_answers.Goals as goal

pub returns-after-times : goal.returns-after-times
returns-after-times g c = record {
  checked = checked_on c.args.setup.now c.in-Ok.tape.setup.now (g.R.Read.remaining c.args.changes) c.in-Ok.tape.changes.items
      c.args.text.now c.check_text.result c.in-Ok.ensures.setup c.in-Ok.ensures.file c.check_text.ensures;
}
