-- `tell_run`: clause `left`, by `result_stopped`.
use Rattle.std.proofs.Common.{arith, rules, ◌≡◌, length}
use Rattle.std.proofs.lemmas.Grind.{common_steps}
use Rattle.nms_lines.specs.Text.{text_of}
use Rattle.nms_text.specs.LiveText.{live_records}
use Rattle.nms_tool.proofs.LiveFacts.{result_stopped}
use Rattle.nms_tool.proofs.living.tell_run.Goals as goal

pub returns-in-Err-clause-left : goal.returns-in-Err-clause-left
returns-in-Err-clause-left g c =
    let settings = c.args.setup.now in
    let live = c.args.live.now in
    let is : text_of (live_records c.roster.result.now c.len-taken.result c.deref.result.now)
    ≡ text_of (live_records settings.roster (length live.tape.items) live.closing.items) = search rules in
    result_stopped c.in-Err.fault settings live _ (g.W.Write.contents c.args.answers.now) (g.W.Write.contents c.write_live.new.answers) is
    c.in-Err.ensures.cut c.in-Err.ensures.unwritten

-- ---- goals that `grind` closes; the search that is tried before it takes longer

pub returns-in-Ok-clause-done : goal.returns-in-Ok-clause-done
returns-in-Ok-clause-done g c = grind (arith, common_steps)
