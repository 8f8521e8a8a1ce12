-- `draw_changes`: what the picture of the file's tape promises, and its faults, by `file_fits` and `file_faults`.
use Rattle.std.proofs.Common.{option_copied}
use Rattle.nms_drawing.proofs.DayFacts.{file_faults, file_fits}
use Rattle.nms_drawing.proofs.DrawnFacts.{file_page}
use Rattle.nms_drawing.proofs.drawing.draw_changes.Goals as goal

pub returns-in-Ok : goal.returns-in-Ok
returns-in-Ok g c =
    let settings = c.args.setup.now in
    let frame = c.args.frame.now in
    let times = option_copied frame.times in
    let plan = option_copied c.args.plan in
    let bytes = g.R.Read.remaining c.args.source in
    let read = c.in-Ok.tape in
    let known = c.in-Ok.ensures in
    record {
      page = file_page c.draw_day.result settings read.setup.now bytes frame c.args.sym plan (g.W.Write.contents c.args.answers.now)
          (g.W.Write.contents c.draw_day.new.answers) read.changes.items known.setup known.file c.draw_day.ensures.page;
      drawn = file_fits c.draw_day.result settings bytes frame.from frame.to frame.own times read.changes.items known.file
          c.draw_day.ensures.drawn;
      plan = rw (← known.roster) c.draw_day.ensures.plan;
      refused = file_faults c.draw_day.result settings read.roster.now bytes frame.from frame.to frame.own times plan read.changes.items
          known.roster known.file c.draw_day.ensures.refused;
      unwritten = c.draw_day.ensures.unwritten;
    }
