-- `append_legs`: what holds in each turn of its loop.
use Rattle.std.proofs.Common.{◌≡◌, ◌++◌, map, take}
use Rattle.nms_lines.specs.PlanText.{leg_record}
use Rattle.nms_lines.specs.Text.{text_of}
use Rattle.nms_lines.proofs.plan_writing.append_legs.Given as goal

-- the records so far were appended
abbrev pub invariant-loop-leg : goal.invariant-loop-leg
invariant-loop-leg l = l.out.items ≡ l.fn.out.items ++ text_of (map (leg_record l.roster) (take l.leg-index l.legs))
