-- `answer_records`: what holds in each turn of its loop: `come`, `room`, `few` and `within`.
use Rattle.std.proofs.Common.{ℕ, ◌≡◌, ◌≤◌, List, [], Option}
use Rattle.nms_lines.specs.Records.{ReadsFrom}
use Rattle.nms_flow.specs.Flow.{room_of, room_under}
use Rattle.nms_scripts.specs.declared.TheConstants.{MOST_RECORDS}
use Rattle.nms_scripts.specs.Progress.{HasCome}
use Rattle.nms_scripts.proofs.script.answer_records.Given as goal

-- the records so far were answered
abbrev pub invariant-loop-done : goal.invariant-loop-done
invariant-loop-done g l = record {
  come : (bytes : Option (List ℕ)) → ReadsFrom g.R.Read.remaining l.fn.reader bytes []
      → HasCome g.R.Read.remaining l.setup bytes l.reader l.script.flow (g.W.Write.contents l.fn.writer) (g.W.Write.contents l.writer)
      l.done l.refused;
  room : room_of l.script.flow ≡ room_under l.setup;
  few : l.refused ≤ l.done;
  within : l.done ≤ MOST_RECORDS;
}
