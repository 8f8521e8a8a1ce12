-- `number_days`: each turn adds the day of its symbol.
use Rattle.std.proofs.Common.{◌≡◌, ℕ, Bool, List, Option, Some, None, [], ◌∷◌, ◌++◌, ap, arith, cond, false, get_or, length, sym, ◌∙◌}
use Rattle.std.proofs.lemmas.Grind.{common_steps}
use Rattle.nms_drawing.proofs.DayLemmas.{next_day, next_symbol}
use Rattle.nms_drawing.proofs.content.number_days.Goals as goal

pub loop-place-preserved : goal.loop-place-preserved
loop-place-preserved c =
    let marks = c.args.marks.now in
    let place = c.loop-place.place in
    let before = c.loop-place.invariant in
    let days = c.loop-place.traded.days.items in
    let symbols = c.loop-place.traded.symbols.items in
    let at : c.unwrap.result ≡ place = grind (arith, common_steps) in
    record {
      days = c.in_ok-add_day.ensures.days
          ∙ ap (λ (k : ℕ). days ++ cond (get_or marks k false) (Some (length symbols)) None ∷ []) at
          ∙ next_day place (λ s. get_or marks s false) days symbols before.days before.symbols;
      symbols = c.in_ok-add_day.ensures.symbols
          ∙ ap (λ (k : ℕ). symbols ++ cond (get_or marks k false) (k ∷ []) []) at
          ∙ next_symbol place (λ s. get_or marks s false) symbols before.symbols;
    }
