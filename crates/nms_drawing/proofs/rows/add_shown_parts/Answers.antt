-- `add_shown_parts`: each turn adds a participant, by `turn_at`.
use Rattle.std.proofs.Common.{◌≡◌, ◌++◌, ◌∷◌, [], ℕ, List, ap, length, ◌∙◌, arith}
use Rattle.std.proofs.lemmas.Grind.{common_steps}
use Rattle.std.specs.List.{flat_map, range_with_len}
use Rattle.nms_drawing.specs.Rows.{part_if_shown}
use Rattle.nms_drawing.proofs.RowLemmas.{turn_at}
use Rattle.nms_drawing.proofs.rows.add_shown_parts.Goals as goal

pub loop-place-preserved : goal.loop-place-preserved
loop-place-preserved c =
    let place : c.unwrap.result ≡ c.loop-place.place = grind (arith, common_steps) in
    let rows = part_if_shown c.args.window.now c.args.board.now c.args.day c.args.sym in
    turn_at c.loop-place.rows.items (c.args.rows.now.items ++ flat_map rows (range_with_len 0 c.args.board.now.sizes.parts))
    c.add_part_if_shown.new.rows.items rows c.unwrap.result c.loop-place.place c.parts-place-end.result place c.loop-place-test.true
    c.in_ok-add_part_if_shown.ensures c.loop-place.invariant
