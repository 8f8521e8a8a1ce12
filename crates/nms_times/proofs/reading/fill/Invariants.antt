-- `fill`: the lines so far have the times that are in the list.
use Rattle.std.proofs.Common.{◌≡◌, length}
use Rattle.nms_times.proofs.TextFacts.{HasFirst}
use Rattle.nms_times.proofs.reading.fill.Given as goal

abbrev pub invariant-loop-place : goal.invariant-loop-place
invariant-loop-place l = record {
  counted : length l.all.items ≡ l.place;
  read : HasFirst l.width l.text l.all.items l.place;
}
