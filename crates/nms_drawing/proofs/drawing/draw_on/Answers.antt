-- `draw_on`: the window shows what the frame asks for.
use Rattle.std.proofs.Common.{List, Option, ℕ, ap, length, ◌∙◌}
use Rattle.nms_drawing.proofs.DayLemmas.{one_each}
use Rattle.nms_drawing.proofs.drawing.draw_on.Goals as goal

pub draw_window-requires-clause-days : goal.draw_window-requires-clause-days
draw_window-requires-clause-days g c =
    ap (λ (days : List (Option ℕ)). length days) (c.deref.ensures.value ∙ c.in-Ok.ensures)
    ∙ one_each c.args.sym (length c.args.tape.now.roster.now.syms) 0
