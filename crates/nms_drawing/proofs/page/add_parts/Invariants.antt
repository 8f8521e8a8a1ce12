-- `add_parts`: the names so far and those that are left are all of them.
use Rattle.std.proofs.Common.{◌≡◌, ◌++◌, ◌-◌, map}
use Rattle.std.specs.List.{range_with_len}
use Rattle.nms_quote.specs.Roster.{part_text}
use Rattle.nms_drawing.specs.Page.{part_names}
use Rattle.nms_drawing.proofs.page.add_parts.Given as goal

abbrev pub invariant-loop-place : goal.invariant-loop-place
invariant-loop-place l = map (λ name. name.now) l.names.items ++ map (part_text l.roster) (range_with_len l.place (l.place-end - l.place))
    ≡ part_names l.roster
