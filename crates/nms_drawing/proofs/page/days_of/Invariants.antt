-- `days_of`: so far there is a row for each symbol.
use Rattle.std.proofs.Common.{◌≡◌, replicate}
use Rattle.nms_drawing.specs.Page.{day_row}
use Rattle.nms_drawing.proofs.page.days_of.Given as goal

abbrev pub invariant-loop : goal.invariant-loop
invariant-loop l = l.days.items ≡ replicate l.counter (day_row l.content.window.now)
