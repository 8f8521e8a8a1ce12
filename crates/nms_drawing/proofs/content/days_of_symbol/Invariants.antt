-- `days_of_symbol`: the days so far and those that are left are all of them.
use Rattle.std.proofs.Common.{◌≡◌, ◌++◌, ◌∷◌, [], ◌-◌, length}
use Rattle.std.specs.List.{flat_map, range_with_len}
use Rattle.nms_drawing.specs.Drawn.{day_if_same, days_of_symbol}
use Rattle.nms_drawing.proofs.content.days_of_symbol.Given as goal

abbrev pub invariant-loop-place : goal.invariant-loop-place
invariant-loop-place l = l.days.items ++ flat_map (λ place. day_if_same l.sym place ∷ []) (range_with_len l.place (l.place-end - l.place))
    ≡ days_of_symbol (length l.roster.syms) l.sym
