-- `read_all`: what holds in each turn of its loop.
use Rattle.std.proofs.Common.{ℕ, ◌≡◌, ◌≤◌, List, [], Option}
use Rattle.nms_lines.specs.Records.{ReadsFrom}
use Rattle.nms_flow.specs.Flow.{room_of, room_under}
use Rattle.nms_scripts.specs.declared.TheConstants.{MOST_RECORDS}
use Rattle.nms_review.specs.Progress.{HasRead}
use Rattle.nms_review.proofs.tape.taking.read_all.Given as goal

-- the records so far were served
abbrev pub invariant-loop-done : goal.invariant-loop-done
invariant-loop-done g l = record {
  read : (bytes : Option (List ℕ)) → ReadsFrom g.R.Read.remaining l.fn.reader bytes []
      → HasRead g.R.Read.remaining l.setup bytes l.reader l.taking.flow l.taking.sent.items l.done;
  room : room_of l.taking.flow ≡ room_under l.setup;
  within : l.done ≤ MOST_RECORDS;
}
