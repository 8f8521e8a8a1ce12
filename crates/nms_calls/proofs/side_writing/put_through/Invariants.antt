-- `put_through`: what holds in each turn of its loop: `count`, `within` and `rows`.
use Rattle.std.proofs.Common.{◌≡◌, ◌≤◌, length}
use Rattle.nms_calls.specs.RowNumbers.{AreRowsAt}
use Rattle.nms_calls.proofs.ThroughLemmas.{through_first}
use Rattle.nms_calls.proofs.side_writing.put_through.Given as goal

-- the rows of the participants so far are written
abbrev pub invariant-loop-place : goal.invariant-loop-place
invariant-loop-place l = record {
  count : l.count ≡ length (through_first l.board l.sym l.side l.millionths l.place);
  within : l.count ≤ l.place;
  rows : AreRowsAt l.places (through_first l.board l.sym l.side l.millionths l.place);
}
