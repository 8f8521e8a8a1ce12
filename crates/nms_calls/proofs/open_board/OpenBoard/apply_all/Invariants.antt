-- `apply_all`: how far it came, and what is left then.
use Rattle.std.proofs.Common.{◌≡◌, ◌+◌, None, fold, take}
use Rattle.nms_calls.specs.Opened.{AreApplied, Progress, from_start, next, version}
use Rattle.nms_calls.proofs.open_board.OpenBoard.apply_all.Given as goal

abbrev pub invariant-loop-change : goal.invariant-loop-change
invariant-loop-change l =
    let reached : Progress = record { applied = l.taken; fault = None } in
    record {
      counted : l.taken ≡ l.change-index;
      settings : l.self.settings ≡ l.fn.self.settings;
      version_of : version l.self ≡ version l.fn.self + l.taken;
      reached_is : reached ≡ fold (next l.fn.self) from_start (take l.change-index l.changes);
      left : AreApplied l.fn.self (take l.change-index l.changes) l.self;
    }
