-- `add_shown_parts`: the participants so far and those that are left are all of them.
use Rattle.std.proofs.Common.{◌≡◌, ◌++◌, ◌∷◌, [], ◌-◌, drop, map, length}
use Rattle.std.specs.List.{flat_map, range_with_len}
use Rattle.nms_drawing.specs.Rows.{part_if_shown}
use Rattle.nms_drawing.proofs.rows.add_shown_parts.Given as goal

abbrev pub invariant-loop-place : goal.invariant-loop-place
invariant-loop-place l = l.rows.items ++ flat_map (part_if_shown l.window l.board l.day l.sym) (range_with_len l.place (l.place-end - l.place))
    ≡ l.fn.rows.items ++ flat_map (part_if_shown l.window l.board l.day l.sym) (range_with_len 0 l.board.sizes.parts)
