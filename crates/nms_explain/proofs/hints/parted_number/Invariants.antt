-- `parted_number`: the first number that is parted begins before the last field, and there are no more than fields were read.
use Rattle.std.proofs.Common.{◌<◌, ◌≤◌, ◌+◌, length}
use Rattle.std.specs.Prelude.{IfSome}
use Rattle.csv.specs.Records.{fields_of}
use Rattle.nms_explain.proofs.hints.parted_number.Given as goal

abbrev pub invariant-loop-place : goal.invariant-loop-place
invariant-loop-place l = record {
  first : IfSome l.first (λ place. place + 1 < length (fields_of l.row));
  count : l.count ≤ l.place;
}
