-- `new`: a board of no change shows the empty tape.
use Rattle.std.proofs.Common.{◌∙◌, ap, subst}
use Rattle.nms_quote.specs.Roster.{Listing, sizes_of}
use Rattle.nms_board.specs.Cells.{Board, IsBoard, opening}
use Rattle.nms_calls.proofs.OpenedLemmas.{stands_for_nothing}
use Rattle.nms_calls.proofs.open_board.OpenBoard.new.Goals as goal

pub returns-clause-new : goal.returns-clause-new
returns-clause-new c =
    let board = c.in-Ok.rolling.board in
    record {
      setup = c.in_ok-setup.ensures.read;
      board = c.in-Ok.ensures.opening ∙ ap (λ (roster : Listing). opening (sizes_of roster)) c.roster.ensures;
      before = c.in-Ok.ensures.before;
      stands = stands_for_nothing board (subst IsBoard c.board.ensures c.stands_for_a_tape.ensures)
          (ap (λ (b : Board). b.applied) c.in-Ok.ensures.opening);
    }
