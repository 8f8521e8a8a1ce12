-- `withdraw_from`: the invariant of its loop, by `change_cell_stays` if nothing is quoted, and what it asks of `alter`.
use Rattle.std.proofs.Common.{◌+◌, ◌*◌, sym, ◌∙◌, ap, length, arith}
use Rattle.std.proofs.lemmas.Grind.{common_steps}
use Rattle.nms_quote.specs.Roster.{Sizes}
use Rattle.nms_board.specs.Cells.{place_of, withdrawn}
use Rattle.nms_board.proofs.BoardLemmas.{change_cell_stays, length-withdraw_from, withdraw_from_more, withdraw_from_none}
use Rattle.nms_board.proofs.KeptLemmas.{own_withdrawn}
use Rattle.nms_board.proofs.board.withdraw_from.Goals as goal
use Rattle.nms_board.proofs.board.withdraw_from.Goals.{then-has_quote, else-has_quote}

pub loop-sym-init : goal.loop-sym-init
loop-sym-init c = record {
  cells = sym (withdraw_from_none c.args.number c.args.part c.args.cells.now);
  ranks = c.requires.ranks;
  bests = c.requires.bests;
}

pub alter-requires-clause-own : goal.alter-requires-clause-own
alter-requires-clause-own c = λ side.
    let sizes : Sizes = record { parts = c.args.parts; lots = c.args.lots.now } in
    own_withdrawn sizes c.loop-sym.cells c.args.part c.loop-sym.sym c.args.number side
    (record {
      narrow = c.requires.parts;
      room = omega (
        arith,
        c.requires.room,
        ap length
            c.loop-sym.invariant.cells,
        length-withdraw_from c.args.number c.args.part c.loop-sym.sym c.args.cells.now,
      );
      in_parts =
          c.requires.part;
      in_syms = omega arith;
    })
    (c.loop-sym.invariant.ranks.own c.loop-sym.sym side (omega arith))

pub loop-sym-preserved : goal.loop-sym-preserved
loop-sym-preserved c = elim c.if-has_quote.branch [
  | then-has_quote w ↦ record {
    cells = w.cells-is ∙ w.alter.ensures.cells ∙ rw c.loop-sym.invariant.cells (sym
        (withdraw_from_more c.args.number c.args.part c.loop-sym.sym c.args.cells.now));
    ranks = rw (w.cells-is, w.ranks-is) w.alter.ensures.ranks;
    bests = rw (w.cells-is, w.ranks-is, w.bests-is) w.alter.ensures.bests;
  }
  | else-has_quote w ↦ record {
    cells =
        w.cells-is
        ∙ sym (change_cell_stays c.loop-sym.cells (32 * c.loop-sym.sym + c.from.result) (place_of c.args.part c.loop-sym.sym)
        (withdrawn c.args.number) c.index-cells-sym.result
        (omega arith) (omega arith) (c.has_quote.ensures w.if-has_quote.false c.args.number))
        ∙ rw c.loop-sym.invariant.cells (sym (withdraw_from_more c.args.number c.args.part c.loop-sym.sym c.args.cells.now));
    ranks = rw (w.cells-is, w.ranks-is) c.loop-sym.invariant.ranks;
    bests = rw (w.cells-is, w.ranks-is, w.bests-is) c.loop-sym.invariant.bests;
  }
]

-- ---- goals that `grind` closes; the search that is tried before it takes longer

pub alter-requires-clause-room : goal.alter-requires-clause-room
alter-requires-clause-room c = grind (arith, common_steps)

pub alter-requires-clause-sym : goal.alter-requires-clause-sym
alter-requires-clause-sym c = grind (arith, common_steps)

pub alter-requires-clause-ranks : goal.alter-requires-clause-ranks
alter-requires-clause-ranks c = grind (arith, common_steps)

pub alter-requires-clause-bests : goal.alter-requires-clause-bests
alter-requires-clause-bests c = grind (arith, common_steps)

pub alter-requires-clause-part : goal.alter-requires-clause-part
alter-requires-clause-part c = grind (arith, common_steps)

pub alter-requires-clause-parts : goal.alter-requires-clause-parts
alter-requires-clause-parts c = grind (arith, common_steps)
