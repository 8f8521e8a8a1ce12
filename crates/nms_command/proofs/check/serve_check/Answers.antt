-- `serve_check`: all that it promises, by `on_files`, `cuts_more` and `unread_cut`.
use Rattle.std.proofs.Common.{arith}
use Rattle.std.proofs.lemmas.Grind.{common_steps}
use Rattle.nms_command.proofs.CheckFacts.{on_files}
use Rattle.nms_command.proofs.FailedFacts.{cuts_more}
use Rattle.nms_command.specs.Check.{JudgesFiles, JudgesOnFile}
use Rattle.nms_command.proofs.check.serve_check.Goals as goal

pub returns-clause-served : goal.returns-clause-served
returns-clause-served g c =
    on_files c.check_text.result c.args.setup.now _ _ (g.W.Write.contents c.args.answers.now) (g.W.Write.contents c.check_text.new.answers)
    c.check_text.ensures.served

pub returns-clause-cut : goal.returns-clause-cut
returns-clause-cut g c =
    let old = g.W.Write.contents c.args.answers.now in
    cuts_more c.check_text.result (JudgesOnFile c.args.setup.now _ _ old) (JudgesFiles c.args.setup.now old) old
    (g.W.Write.contents c.check_text.new.answers) (λ whole ends judges. (_, _, judges)) c.check_text.ensures.cut

-- ---- goals that `grind` closes; the search that is tried before it takes longer

pub bounds-words-1 : goal.bounds-words-1
bounds-words-1 g c = grind (arith, common_steps)

pub returns-in_err-source-clause-cut : goal.returns-in_err-source-clause-cut
returns-in_err-source-clause-cut g c = grind (arith, common_steps)

pub bounds-words-0 : goal.bounds-words-0
bounds-words-0 g c = grind (arith, common_steps)
