-- `Flow::new`: the invariant of what it returns.
use Rattle.std.proofs.Common.{◌≡◌, true, List, [], arith, length, ap, sym, subst}
use Rattle.std.proofs.lemmas.Grind.{common_steps}
use Rattle.std.specs.Prelude.{All}
use Rattle.std.proofs.lemmas.List.Elements.{All-nil}
use Rattle.nms_quote.specs.Roster.{holds}
use Rattle.nms_quote.specs.declared.marked.Marked.{Marked}
use Rattle.nms_board.specs.Cells.{Board}
use Rattle.nms_flow.proofs.flow.Flow.new.Goals as goal

pub invariant_of-result : goal.invariant_of-result
invariant_of-result c =
    let ready = c.in-Ok-Ok in
    let board : Board = ready.board in
    let none : ready.changes.items ≡ [] = ready.ensures'.items in
    let empty : length ready.changes.items ≡ 0 = ap length none in
    let opening = ready.ensures.opening in
    record {
      held = subst (λ (ms : List Marked). All (λ marked. holds board.sizes marked.change ≡ true) ms) (sym none)
          (All-nil (λ (marked : Marked). holds board.sizes marked.change ≡ true));
      pending = omega arith;
      queued = omega (arith, empty);
      taken = omega (arith, ap (λ (b : Board). b.applied) opening);
      limit = c.tape_limit.ensures.high;
      room = omega (arith, ready.ensures'.capacity);
    }

-- ---- goals that `grind` closes; the search that is tried before it takes longer

pub returns-clause-room : goal.returns-clause-room
returns-clause-room c = grind (arith, common_steps)
