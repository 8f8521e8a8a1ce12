-- `days_of_symbol`: each turn adds the day of its place, by `turn`.
use Rattle.std.proofs.Common.{◌++◌, ◌∷◌, [], ℕ, Option, ap, length, refl, ◌∙◌}
use Rattle.nms_drawing.specs.Drawn.{day_if_same, days_of_symbol}
use Rattle.nms_drawing.proofs.RowLemmas.{turn_at}
use Rattle.nms_drawing.proofs.content.days_of_symbol.Goals as goal

pub loop-place-preserved : goal.loop-place-preserved
loop-place-preserved c =
    let place = c.loop-place.place in
    let out = c.loop-place.days.items in
    turn_at out (days_of_symbol (length c.args.roster.now.syms) c.args.sym) c.push.new.self.items
    (λ (n : ℕ). day_if_same c.args.sym n ∷ []) place place c.syms-place-end.result refl c.loop-place-test.true
    (c.in_ok-push.ensures.items ∙ ap (λ (day : Option ℕ). out ++ day ∷ []) c.day_if_same.ensures) c.loop-place.invariant
