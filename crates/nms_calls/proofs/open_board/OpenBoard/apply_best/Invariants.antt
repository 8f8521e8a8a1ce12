-- `apply_best`: how far it came, and what is left then.
use Rattle.std.proofs.Common.{◌≡◌, ◌+◌, None, fold, length, take}
use Rattle.nms_calls.specs.Batches.{AreFollowed, followed}
use Rattle.nms_calls.specs.Opened.{Progress, from_start, version}
use Rattle.nms_calls.proofs.open_board.OpenBoard.apply_best.Given as goal

abbrev pub invariant-loop-change : goal.invariant-loop-change
invariant-loop-change l =
    let reached : Progress = record { applied = l.place; fault = None } in
    record {
      counted : l.place ≡ l.change-index;
      room : length l.out ≡ length l.fn.out;
      settings : l.self.settings ≡ l.fn.self.settings;
      version_of : version l.self ≡ version l.fn.self + l.place;
      reached_is : reached ≡ fold (followed l.fn.self) from_start (take l.change-index l.changes);
      left : AreFollowed l.fn.self (take l.change-index l.changes) (take l.change-index l.out) l.self;
    }
