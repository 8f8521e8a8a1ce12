-- `Boards::apply`: clauses `after` and `stands`, the call of `alter`, the call of `set_lot` and the invariant
-- of what it leaves, by `board_after`, `quoted_below`, `relotted_below`, `restated_below`, `stands_after`,
-- `own_shown` and `written_all`.
use Rattle.std.proofs.Common.{◌≡◌, [], ◌∷◌, ◌++◌, true, sym, subst, inl, inr, arith}
use Rattle.std.proofs.lemmas.Grind.{common_steps}
use Rattle.nms_quote.specs.declared.change.Change.{Change}
use Rattle.nms_quote.specs.declared.change.Change.TheVariants.{Lot, Quote, State}
use Rattle.nms_board.specs.Cells.{Board, IsBoard, StandsFor, after, takes}
use Rattle.nms_board.proofs.BoardLemmas.{board_after, quoted_below, relotted_below, restated_below, stands_after}
use Rattle.nms_board.proofs.KeptLemmas.{own_shown}
use Rattle.nms_board.proofs.ListLemmas.{written_all}
use Rattle.nms_board.proofs.board.Boards.apply.Goals as goal

pub alter-requires-clause-own : goal.alter-requires-clause-own
alter-requires-clause-own c = λ side.
    let board : Board = record {
      sizes = record { parts = c.self.inside.parts; lots = c.self.inside.opening.items };
      lots = c.self.inside.lots.items;
      cells = c.self.inside.cells.items;
      applied = c.self.inside.applied;
    } in
    let taken : (change : Change) → c.args.change ≡ change → takes board change ≡ true =
    λ change is. subst (λ (b : Board). takes b change ≡ true) (sym c.self.view_is)
    (subst (λ ch. takes c.args.self.now ch ≡ true) is c.requires) in
    rw (
      c.in-Quote.change-is,
      c.deref-in-Quote.ensures.value,
      c.deref_mut-in-Quote.ensures.value,
      c.from-in-Quote.ensures,
      c.get-in-Quote.ensures.place,
    )
    (elim c.in-Quote.is [
      | inl quote ↦
          let (state, bid, offer, is) = quote in
          let change = Quote c.in-Quote.part c.in-Quote.sym state bid offer in
          rw is
          (own_shown (after board change) c.in-Quote.sym side (board_after board change c.self.invariant.0 (taken change is))
          (quoted_below board c.in-Quote.part c.in-Quote.sym state bid offer (taken change is)))
      | inr restated ↦
          let (state, is) = restated in
          let change = State c.in-Quote.part c.in-Quote.sym state in
          rw is
          (own_shown (after board change) c.in-Quote.sym side (board_after board change c.self.invariant.0 (taken change is))
          (restated_below board c.in-Quote.part c.in-Quote.sym state (taken change is)))
    ])

pub set_lot-requires-clause-own : goal.set_lot-requires-clause-own
set_lot-requires-clause-own c = λ side.
    let board : Board = record {
      sizes = record { parts = c.self.inside.parts; lots = c.self.inside.opening.items };
      lots = c.self.inside.lots.items;
      cells = c.self.inside.cells.items;
      applied = c.self.inside.applied;
    } in
    let change = Lot c.in-Lot.sym c.in-Lot.lot in
    let taken : takes board change ≡ true = subst (λ (b : Board). takes b change
    ≡ true) (sym c.self.view_is) (subst (λ ch. takes c.args.self.now ch ≡ true) c.in-Lot.is c.requires) in
    rw (c.deref-in-Lot.ensures.value, c.deref_mut-in-Lot.ensures.value, c.from.ensures, c.get.ensures.place)
    (own_shown (after board change) c.in-Lot.sym side (board_after board change c.self.invariant.0 taken)
    (relotted_below board c.in-Lot.sym c.in-Lot.lot taken))

pub returns-in-Quote-clause-after : goal.returns-in-Quote-clause-after
returns-in-Quote-clause-after c = grind (arith, common_steps)

pub invariant_of-self-in-Quote : goal.invariant_of-self-in-Quote
invariant_of-self-in-Quote c = (
  subst IsBoard (sym (returns-in-Quote-clause-after c))
      (board_after c.args.self.now c.args.change (subst IsBoard c.self.view_is c.self.invariant.0) c.requires),
  rw (
    written_all c.self.inside.cells.len c.alter.new.cells c.self.inside.cells.items (omega (arith, c.alter.auto.cells)) (omega arith),
    written_all c.self.inside.ranks.len c.alter.new.ranks c.self.inside.ranks.items (omega (arith, c.alter.auto.ranks)) (omega arith),
    ← c.deref-in-Quote.ensures.value,
  ) c.alter.ensures.ranks,
  rw (
    written_all c.self.inside.cells.len c.alter.new.cells c.self.inside.cells.items (omega (arith, c.alter.auto.cells))
        (omega arith),
    written_all c.self.inside.ranks.len c.alter.new.ranks c.self.inside.ranks.items (omega (arith, c.alter.auto.ranks))
        (omega arith),
    written_all c.self.inside.bests.len c.alter.new.bests c.self.inside.bests.items (omega (arith, c.alter.auto.bests))
        (omega arith),
    ← c.deref-in-Quote.ensures.value,
  ) c.alter.ensures.bests,
)

pub returns-in-Withdraw-clause-after : goal.returns-in-Withdraw-clause-after
returns-in-Withdraw-clause-after c = grind (arith, common_steps)

pub invariant_of-self : goal.invariant_of-self
invariant_of-self c = (
  subst IsBoard (sym (returns-in-Withdraw-clause-after c))
      (board_after c.args.self.now c.args.change (subst IsBoard c.self.view_is c.self.invariant.0) c.requires),
  rw (
    written_all c.self.inside.cells.len c.withdraw_from.new.cells c.self.inside.cells.items (omega (arith, c.withdraw_from.auto.cells))
        (omega arith),
    written_all c.self.inside.ranks.len c.withdraw_from.new.ranks c.self.inside.ranks.items (omega (arith, c.withdraw_from.auto.ranks))
        (omega arith),
    ← c.deref.ensures.value,
  ) c.withdraw_from.ensures.ranks,
  rw (
    written_all c.self.inside.cells.len c.withdraw_from.new.cells c.self.inside.cells.items (omega (arith, c.withdraw_from.auto.cells))
        (omega arith),
    written_all c.self.inside.ranks.len c.withdraw_from.new.ranks c.self.inside.ranks.items (omega (arith, c.withdraw_from.auto.ranks))
        (omega arith),
    written_all c.self.inside.bests.len c.withdraw_from.new.bests c.self.inside.bests.items (omega (arith, c.withdraw_from.auto.bests))
        (omega arith),
    ← c.deref.ensures.value,
  ) c.withdraw_from.ensures.bests,
)

pub returns-in-Quote-clause-stands : goal.returns-in-Quote-clause-stands
returns-in-Quote-clause-stands c = λ tape stands. subst (λ board. StandsFor board (tape ++ c.args.change
    ∷ [])) (sym (returns-in-Quote-clause-after c)) (stands_after c.args.self.now tape c.args.change stands c.requires)

pub returns-in-Withdraw-clause-stands : goal.returns-in-Withdraw-clause-stands
returns-in-Withdraw-clause-stands c = λ tape stands. subst (λ board. StandsFor board (tape ++ c.args.change
    ∷ [])) (sym (returns-in-Withdraw-clause-after c)) (stands_after c.args.self.now tape c.args.change stands c.requires)

pub returns-in-Lot-clause-after : goal.returns-in-Lot-clause-after
returns-in-Lot-clause-after c = grind (arith, common_steps)

pub invariant_of-self-in-Lot-1 : goal.invariant_of-self-in-Lot-1
invariant_of-self-in-Lot-1 c = (
  subst IsBoard (sym (returns-in-Lot-clause-after c))
      (board_after c.args.self.now c.args.change (subst IsBoard c.self.view_is c.self.invariant.0) c.requires),
  rw (
    written_all c.self.inside.lots.len c.set_lot.new.lots c.self.inside.lots.items (omega (arith, c.set_lot.auto.lots)) (omega arith),
    written_all c.self.inside.ranks.len c.set_lot.new.ranks c.self.inside.ranks.items (omega (arith, c.set_lot.auto.ranks)) (omega arith),
    ← c.deref-in-Lot.ensures.value,
  ) c.set_lot.ensures.ranks,
  rw (
    written_all c.self.inside.lots.len c.set_lot.new.lots c.self.inside.lots.items (omega (arith, c.set_lot.auto.lots))
        (omega arith),
    written_all c.self.inside.ranks.len c.set_lot.new.ranks c.self.inside.ranks.items (omega (arith, c.set_lot.auto.ranks))
        (omega arith),
    written_all c.self.inside.bests.len c.set_lot.new.bests c.self.inside.bests.items (omega (arith, c.set_lot.auto.bests))
        (omega arith),
    ← c.deref-in-Lot.ensures.value,
  ) c.set_lot.ensures.bests,
)

pub returns-in-Lot-clause-stands : goal.returns-in-Lot-clause-stands
returns-in-Lot-clause-stands c = λ tape stands. subst (λ board. StandsFor board (tape ++ c.args.change
    ∷ [])) (sym (returns-in-Lot-clause-after c)) (stands_after c.args.self.now tape c.args.change stands c.requires)

-- ---- goals that `grind` closes; the search that is tried before it takes longer

pub set_lot-requires-clause-parts : goal.set_lot-requires-clause-parts
set_lot-requires-clause-parts c = grind (arith, common_steps)

pub set_lot-requires-clause-ranks : goal.set_lot-requires-clause-ranks
set_lot-requires-clause-ranks c = grind (arith, common_steps)

pub withdraw_from-requires-clause-part : goal.withdraw_from-requires-clause-part
withdraw_from-requires-clause-part c = grind (arith, common_steps)

pub withdraw_from-requires-clause-ranks : goal.withdraw_from-requires-clause-ranks
withdraw_from-requires-clause-ranks c = grind (arith, common_steps)

pub alter-requires-clause-ranks : goal.alter-requires-clause-ranks
alter-requires-clause-ranks c = grind (arith, common_steps)

pub set_lot-requires-clause-sym : goal.set_lot-requires-clause-sym
set_lot-requires-clause-sym c = grind (arith, common_steps)

pub alter-requires-clause-sym : goal.alter-requires-clause-sym
alter-requires-clause-sym c = grind (arith, common_steps)

pub alter-requires-clause-part : goal.alter-requires-clause-part
alter-requires-clause-part c = grind (arith, common_steps)

pub alter-requires-clause-parts : goal.alter-requires-clause-parts
alter-requires-clause-parts c = grind (arith, common_steps)

pub withdraw_from-requires-clause-parts : goal.withdraw_from-requires-clause-parts
withdraw_from-requires-clause-parts c = grind (arith, common_steps)
