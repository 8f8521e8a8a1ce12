-- `plain_start`: what was looked at so far is printable.
use Rattle.std.proofs.Common.{length, take, ◌-◌, ◌≤◌}
use Rattle.nms_show.specs.Safe.{IsPrintable}
use Rattle.nms_show.proofs.shown.plain_start.Given as goal

abbrev pub invariant-loop-plain : goal.invariant-loop-plain
invariant-loop-plain l = record { within : l.plain ≤ length l.bytes; printable : IsPrintable (take l.plain l.bytes) }

abbrev pub decreases-loop-plain : goal.decreases-loop-plain
decreases-loop-plain l = length l.bytes - l.plain
