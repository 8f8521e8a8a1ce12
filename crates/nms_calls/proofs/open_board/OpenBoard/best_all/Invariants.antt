-- `best_all`: how far it came, and what was written.
use Rattle.std.proofs.Common.{◌≡◌, None, fold, length, take}
use Rattle.nms_calls.specs.Batches.{AreAnswers, called}
use Rattle.nms_calls.specs.Opened.{Progress, from_start, sym_fault}
use Rattle.nms_calls.specs.RowNumbers.{AreBest}
use Rattle.nms_calls.proofs.open_board.OpenBoard.best_all.Given as goal

abbrev pub invariant-loop-sym : goal.invariant-loop-sym
invariant-loop-sym l =
    let reached : Progress = record { applied = l.place; fault = None } in
    record {
      counted : l.place ≡ l.sym-index;
      room : length l.out ≡ length l.fn.out;
      reached_is : reached ≡ fold (called (sym_fault l.self)) from_start (take l.sym-index l.syms);
      best : AreAnswers (AreBest l.self) l.syms l.out l.place;
    }
