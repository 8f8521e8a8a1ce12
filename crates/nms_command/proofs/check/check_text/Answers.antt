-- `check_text`: all that it promises, by `on_file` and `cuts_more`.
use Rattle.std.proofs.Common.{arith}
use Rattle.std.proofs.lemmas.Grind.{common_steps}
use Rattle.nms_command.proofs.CheckFacts.{on_file}
use Rattle.nms_command.proofs.FailedFacts.{cuts_more}
use Rattle.nms_command.specs.Check.{JudgesOnFile, JudgesText}
use Rattle.nms_command.proofs.check.check_text.Goals as goal

pub returns-in-Ok-clause-served : goal.returns-in-Ok-clause-served
returns-in-Ok-clause-served g c =
    let judges = c.judge.ensures.judged in
    on_file c.judge.result c.args.setup.now (g.R.Read.remaining c.args.source) c.in-Ok.changes.items c.args.text.now
    (g.W.Write.contents c.args.answers.now) (g.W.Write.contents c.judge.new.answers) c.in-Ok.ensures.tape
    (rw c.deref.ensures.value at judges)

pub returns-in-Ok-clause-cut : goal.returns-in-Ok-clause-cut
returns-in-Ok-clause-cut g c =
    let old = g.W.Write.contents c.args.answers.now in
    let cut = c.judge.ensures.cut in
    cuts_more c.judge.result (JudgesText c.args.setup.now c.in-Ok.changes.items c.args.text.now old)
    (JudgesOnFile c.args.setup.now (g.R.Read.remaining c.args.source) c.args.text.now old) old (g.W.Write.contents c.judge.new.answers)
    (λ whole ends judges. (c.in-Ok.changes.items, c.in-Ok.ensures.tape, judges)) (rw c.deref.ensures.value at cut)

-- ---- goals that `grind` closes; the search that is tried before it takes longer

pub judge-requires-clause-held : goal.judge-requires-clause-held
judge-requires-clause-held g c = grind (arith, common_steps)
