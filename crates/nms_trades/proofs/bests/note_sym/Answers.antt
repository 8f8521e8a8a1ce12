-- `note_sym`: clause `own`, by what `note_at` promises of the best prices that the board shows.
use Rattle.nms_trades.proofs.bests.note_sym.Goals as goal

pub returns-clause-own : goal.returns-clause-own
returns-clause-own c = λ own is. rw is
    (rw (
      c.from.ensures,
      c.get.ensures.place,
      c.applied.ensures.count,
      c.best_price.ensures,
      c.best_price-2.ensures,
    ) at c.note_at.ensures.own)
