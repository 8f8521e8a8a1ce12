-- `Boards::new`: clauses `opening` and `stands` and the invariant of what it gives, by `stands_opening`,
-- `ranks_opening` and `bests_opening`.
use Rattle.std.proofs.Common.{◌≡◌, [], length, sym, ap, subst, ◌∙◌, arith}
use Rattle.std.proofs.lemmas.Grind.{common_steps}
use Rattle.nms_quote.specs.Roster.{sizes_of}
use Rattle.nms_board.specs.Cells.{StandsFor}
use Rattle.nms_board.proofs.BestLemmas.{bests_opening}
use Rattle.nms_board.proofs.BoardLemmas.{stands_opening}
use Rattle.nms_board.proofs.KeptLemmas.{ranks_opening}
use Rattle.nms_board.proofs.board.Boards.new.Goals as goal

pub returns-clause-opening : goal.returns-clause-opening
returns-clause-opening c = grind (arith, common_steps)

pub returns-clause-stands : goal.returns-clause-stands
returns-clause-stands c = subst (λ board. StandsFor board []) (sym (returns-clause-opening c))
    (stands_opening (sizes_of c.args.roster.now) (omega arith))

pub invariant_of-result : goal.invariant_of-result
invariant_of-result c =
    let syms : c.len.result ≡ length c.in-Ok-lots_of.lots.items = omega arith in
    let symbols : length c.in-Ok-empty_ranks.ranks.items ≡ length c.in-Ok-lots_of.lots.items =
    omega (arith, c.in-Ok-empty_ranks.ensures.symbols) in
    let same : c.in-Ok-lots_of.lots.items ≡ c.in-Ok.opening.items = c.in-Ok-lots_of.ensures.lots ∙ sym c.in-Ok.ensures.lots in (
      record { shape = grind (arith, common_steps, ap length same); tape = []; stands = returns-clause-stands c },
      rw (c.in-Ok-empty_cells.ensures, syms)
          (ranks_opening (record { parts = c.parts-parts.result; lots = c.in-Ok-lots_of.lots.items }) c.in-Ok-empty_ranks.ranks.items
          c.parts-parts.ensures.within symbols c.in-Ok-empty_ranks.ensures.empty),
      bests_opening (record { parts = c.parts-parts.result; lots = c.in-Ok-lots_of.lots.items }) _ c.in-Ok-empty_ranks.ranks.items
          c.in-Ok-empty_bests.bests.items (omega (arith, c.in-Ok-empty_bests.ensures.symbols)) c.in-Ok-empty_ranks.ensures.empty
          c.in-Ok-empty_bests.ensures.empty,
    )
