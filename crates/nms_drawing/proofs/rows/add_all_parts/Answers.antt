-- `add_all_parts`: each turn adds a participant, by `turn_at`.
use Rattle.std.proofs.Common.{◌≡◌, ◌++◌, ◌∷◌, [], ℕ, List, ap, length, ◌∙◌, arith}
use Rattle.std.proofs.lemmas.Grind.{common_steps}
use Rattle.std.specs.List.{flat_map, range_with_len}
use Rattle.nms_drawing.specs.Rows.{part_row}
use Rattle.nms_drawing.proofs.RowLemmas.{turn_at}
use Rattle.nms_drawing.proofs.rows.add_all_parts.Goals as goal

pub loop-place-preserved : goal.loop-place-preserved
loop-place-preserved c =
    let place : c.unwrap.result ≡ c.loop-place.place = grind (arith, common_steps) in
    let rows = λ (part : ℕ). part_row c.args.window.now c.args.board.now c.args.day c.args.sym part ∷ [] in
    turn_at c.loop-place.rows.items (c.args.rows.now.items ++ flat_map rows (range_with_len 0 c.args.board.now.sizes.parts)) c.push.new.self.items
    rows c.unwrap.result c.loop-place.place c.parts-place-end.result place c.loop-place-test.true
    (c.in_ok-push.ensures.items ∙ ap (λ (row : List ℕ). c.loop-place.rows.items ++ row ∷ []) c.part_row.ensures) c.loop-place.invariant
