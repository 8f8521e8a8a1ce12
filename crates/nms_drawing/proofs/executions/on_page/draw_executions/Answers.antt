-- `draw_executions`: clause `refused` for a day that is not drawn, by `file_day`.
use Rattle.std.proofs.Common.{option_copied}
use Rattle.nms_drawing.proofs.DayFacts.{file_day}
use Rattle.nms_drawing.proofs.executions.on_page.draw_executions.Goals as goal

pub returns-clause-refused : goal.returns-clause-refused
returns-clause-refused g c =
    let settings = c.args.setup.now in
    let frame = c.args.frame.now in
    let times = option_copied frame.times in
    let plan = option_copied c.args.plan in
    let why = c.in-Err-drawn.fault in
    file_day settings (g.C.Read.remaining c.args.changes) frame.from frame.to frame.own times plan c.in-Ok.tape.changes.items why
    c.in-Ok.ensures.file (rw c.in-Ok.ensures.roster at c.in-Err-drawn.ensures.refused)
