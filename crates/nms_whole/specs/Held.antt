-- The state of a reader of complete lines, and what it has still to give. This product's own rule.
use Rattle.std.specs.Prelude.{ℕ, ◌+◌, List, ◌++◌, drop, length, Option, option_map, if◌then◌else◌}
use Rattle.nms_whole.specs.Going.{given_after}
use Rattle.nms_whole.specs.declared.held.Held.{Held}
use Rattle.nms_whole.specs.declared.whole_lines.WholeLines.{WholeLines}

-- what is ready to be passed on
abbrev pub ready_of : Held → List ℕ
ready_of held = drop held.given held.ready.items

-- what is passed on, if these bytes come: what is ready, and then what comes of them
abbrev pub still : Held → List ℕ → List ℕ
still held bytes = ready_of held ++ given_after held.line.items held.is_bad bytes

-- how much is held, with a place for the replacement of a bad line
abbrev pub weight : Held → ℕ
weight held = length held.ready.items + length held.line.items + (if held.is_bad then 1 else 0)

-- what a reader of complete lines has still to give, if it is known what its source has left
abbrev pub lines_left : {R : Type 0} → (R → Option (List ℕ)) → WholeLines R → Option (List ℕ)
lines_left remaining lines = option_map (still lines.held) (remaining lines.source)
