-- `append_cuts`: what holds in each turn of its loop.
use Rattle.std.proofs.Common.{◌≡◌, ◌++◌, map, take}
use Rattle.nms_lines.specs.PlanText.{cut_record}
use Rattle.nms_lines.specs.Text.{text_of}
use Rattle.nms_lines.proofs.plan_writing.append_cuts.Given as goal

-- the records so far were appended
abbrev pub invariant-loop-cut : goal.invariant-loop-cut
invariant-loop-cut l = l.out.items ≡ l.fn.out.items ++ text_of (map cut_record (take l.cut-index l.cuts))
