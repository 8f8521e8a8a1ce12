-- `note_part`: clause `own`, by what `note_at` promises of the prices that the board holds.
use Rattle.nms_trades.proofs.parts.note_part.Goals as goal

pub returns-clause-own : goal.returns-clause-own
returns-clause-own c = λ s p s_is p_is. rw (s_is, p_is)
    (rw (
      c.place_of.ensures,
      c.applied.ensures.count,
      c.protected_price.ensures,
      c.row.ensures,
      c.protected_price-2.ensures,
      c.row-2.ensures,
    ) at c.note_at.ensures.own)
