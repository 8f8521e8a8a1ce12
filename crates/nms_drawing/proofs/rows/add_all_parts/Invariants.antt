-- `add_all_parts`: the participants so far and those that are left are all of them.
use Rattle.std.proofs.Common.{◌≡◌, ◌++◌, ◌∷◌, [], ◌-◌, drop, map, length}
use Rattle.std.specs.List.{flat_map, range_with_len}
use Rattle.nms_drawing.specs.Rows.{part_row}
use Rattle.nms_drawing.proofs.rows.add_all_parts.Given as goal

abbrev pub invariant-loop-place : goal.invariant-loop-place
invariant-loop-place l = l.rows.items ++ flat_map (λ part. part_row l.window l.board l.day l.sym part ∷ [])
    (range_with_len l.place (l.place-end - l.place))
    ≡ l.fn.rows.items ++ flat_map (λ part. part_row l.window l.board l.day l.sym part ∷ []) (range_with_len 0 l.board.sizes.parts)
