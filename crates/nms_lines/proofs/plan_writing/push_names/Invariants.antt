-- `push_names`: the names of the members below the place were appended, and what is before one more is known.
use Rattle.std.proofs.Common.{◌≡◌, ◌++◌}
use Rattle.nms_lines.specs.Named.{members_below}
use Rattle.nms_lines.proofs.NamedFacts.{before_next, text_below}
use Rattle.nms_lines.proofs.plan_writing.push_names.Given as goal

abbrev pub invariant-loop-place : goal.invariant-loop-place
invariant-loop-place l = record {
  written : l.out.items ≡ l.fn.out.items ++ text_below l.roster l.place l.set;
  next : l.between ≡ before_next (members_below l.place l.set);
}
