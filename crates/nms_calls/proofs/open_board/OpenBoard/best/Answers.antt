-- `best`: the board's best rows are those of the symbol at the place, in the look's version.
use Rattle.std.proofs.Common.{length, nat_lt, refl, subst}
use Rattle.nms_calls.specs.Opened.{Opened}
use Rattle.nms_calls.specs.RowNumbers.{AreBest}
use Rattle.nms_calls.specs.declared.call_fault.CallFault.TheVariants as fault
use Rattle.nms_calls.specs.declared.row_numbers.NmsBest.{NmsBest}
use Rattle.nms_calls.proofs.OpenedLemmas.{best_are, place_is}
use Rattle.nms_calls.proofs.open_board.OpenBoard.best.Goals as goal

pub returns-clause-best : goal.returns-clause-best
returns-clause-best c =
    let opened : Opened =
    record { settings = c.self.inside.setup; board = c.self.inside.rolling.board; before = c.self.inside.rolling.before } in
    let out : NmsBest = record {
      version = c.version-out.result;
      bid = c.of-out.result;
      offer = c.of-out-2.result;
      market = c.market_number-out.result;
      spare = 0;
    } in
    subst (λ (o : Opened). AreBest o c.args.place out) c.self.view_is
    (best_are opened c.board-board.result.now c.in_ok-sym.sym c.args.place c.best_on-bid.result c.best_on-offer.result out
    c.board-board.ensures
    (place_is (nat_lt c.args.place (length c.roster.result.now.syms)) c.in_ok-sym.sym c.args.place fault.NoSymbol c.in_ok-sym.ensures)
    c.best_on-bid.ensures.best c.best_on-offer.ensures.best
    (rw (c.version-out.ensures, c.of-out.ensures, c.of-out-2.ensures, c.market_number-out.ensures, c.market_between.ensures) refl))
