-- `RollingBoard::apply`: each symbol shows what the board before would show after the change.
use Rattle.std.proofs.Common.{◌≡◌, ◌<◌, ℕ, Option, Some, None, ap, arith, length, subst, sym, ◌∙◌, ◌+◌}
use Rattle.nms_quote.specs.Roster.{Sizes}
use Rattle.nms_board.specs.Cells.{Board}
use Rattle.nms_opening.specs.Alike.{ShowAlike}
use Rattle.nms_opening.specs.Rolling.{HasTaken, IsReady, Rolled}
use Rattle.nms_opening.proofs.rolling.RollingBoard.apply.Goals as goal

pub begin-self-inside-requires-clause-roster : goal.begin-self-inside-requires-clause-roster
begin-self-inside-requires-clause-roster c =
    let ready : IsReady c.self.inside.board c.self.inside.next None =
    subst (λ (carried : Option ℕ). IsReady c.self.inside.board c.self.inside.next carried) c.in-None.is c.self.invariant in
    ap (λ (b : Board). b.sizes) c.apply.ensures.after ∙ ready.0

pub returns-then-applied-eq-ROLLS_AT : goal.returns-then-applied-eq-ROLLS_AT
returns-then-applied-eq-ROLLS_AT c =
    let then = c.begin-self-inside.new in
    let sizes : c.apply.new.self.sizes ≡ c.self.inside.board.sizes = ap (λ (b : Board). b.sizes) c.apply.ensures.after in
    let one_more : c.apply.new.self.applied ≡ c.self.inside.board.applied + 1 = ap (λ (b : Board). b.applied) c.apply.ensures.after in
    subst (λ (old : Rolled). HasTaken old (record { board = then.board; before = then.before }) c.args.change) c.self.view_is (record {
      counted = omega (arith, c.begin-self-inside.ensures.counted, one_more);
      roster = c.begin-self-inside.ensures.roster ∙ sizes;
      alike = λ symbol in_syms. subst (λ (b : Board). ShowAlike b then.board symbol) c.apply.ensures.after
          (c.begin-self-inside.ensures.alike symbol (subst (λ (s : Sizes). symbol < length s.lots) (sym sizes) in_syms));
      exact = λ far. absurd (omega (arith, far, one_more, c.if-applied-eq-ROLLS_AT.true, c.applied.ensures.count));
    })

pub returns-in-Some : goal.returns-in-Some
returns-in-Some c =
    let then = c.carry_on-self-inside.new in
    let ready : IsReady c.self.inside.board c.self.inside.next (Some c.in-Some.carried) =
    subst (λ (carried : Option ℕ). IsReady c.self.inside.board c.self.inside.next carried) c.in-Some.is c.self.invariant in
    subst (λ (old : Rolled). HasTaken old (record { board = then.board; before = then.before }) c.args.change) c.self.view_is (record {
      counted = omega (arith, c.carry_on-self-inside.ensures.counted);
      roster = c.carry_on-self-inside.ensures.roster;
      alike = c.carry_on-self-inside.ensures.alike;
      exact = λ far. absurd (omega (arith, far, ready.1.board_many));
    })
