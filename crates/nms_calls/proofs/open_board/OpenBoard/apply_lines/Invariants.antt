-- `apply_lines`: how far it came in the text and in its records, and what is left then.
use Rattle.std.proofs.Common.{◌≡◌, ◌+◌, ◌-◌, None, fold, length, take}
use Rattle.nms_calls.specs.Opened.{Progress, from_start, version}
use Rattle.nms_calls.specs.TextLines.{AreAppliedRecords, record_next, records_in}
use Rattle.nms_calls.proofs.LineLemmas.{IsAt}
use Rattle.nms_calls.proofs.open_board.OpenBoard.apply_lines.Given as goal

abbrev pub invariant-loop-start : goal.invariant-loop-start
invariant-loop-start l =
    let reached : Progress = record { applied = l.taken; fault = None } in
    record {
      place : IsAt l.text l.taken l.start;
      settings : l.self.settings ≡ l.fn.self.settings;
      version_of : version l.self ≡ version l.fn.self + l.taken;
      reached_is : reached ≡ fold (record_next l.fn.self) from_start (take l.taken (records_in l.text));
      left : AreAppliedRecords l.fn.self (take l.taken (records_in l.text)) l.self;
    }

abbrev pub decreases-loop-start : goal.decreases-loop-start
decreases-loop-start l = length l.text - l.start
