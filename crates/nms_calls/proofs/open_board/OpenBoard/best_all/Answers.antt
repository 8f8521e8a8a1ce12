-- `best_all`: how far it came, and what was written.
use Rattle.std.proofs.Common.{◌≡◌, ◌∙◌, ◌+◌, ℕ, None, arith, ap, get_or, rules, subst, sym}
use Rattle.std.proofs.lemmas.List.{length-set}
use Rattle.nms_calls.specs.Batches.{all_called}
use Rattle.nms_calls.specs.Opened.{Progress, sym_fault}
use Rattle.nms_calls.specs.RowNumbers.{AreBest}
use Rattle.nms_calls.proofs.BatchLemmas.{answered-one_more, refused-at, with_room, written-one_more}
use Rattle.nms_calls.proofs.open_board.OpenBoard.best_all.Goals as goal

pub returns-in-Err-clause-answer : goal.returns-in-Err-clause-answer
returns-in-Err-clause-answer c =
    let stopped : Progress = all_called (sym_fault c.args.self.now) c.args.syms.now in
    ap (λ (p : Progress). p.fault) (refused-at (sym_fault c.args.self.now) c.args.syms.now c.loop-sym.sym-index c.loop-sym.place 0
    c.in-Err.fault c.loop-sym-test.true c.loop-sym.invariant.reached_is (sym c.in-Err.ensures.answer)
    ∙ with_room c.args.syms.now c.args.out.now stopped (omega (arith, c.if-out-syms.false)))

pub returns-in-Err-clause-done : goal.returns-in-Err-clause-done
returns-in-Err-clause-done c =
    let stopped : Progress = all_called (sym_fault c.args.self.now) c.args.syms.now in
    ap (λ (p : Progress). p.applied) (refused-at (sym_fault c.args.self.now) c.args.syms.now c.loop-sym.sym-index c.loop-sym.place 0
    c.in-Err.fault c.loop-sym-test.true c.loop-sym.invariant.reached_is (sym c.in-Err.ensures.answer)
    ∙ with_room c.args.syms.now c.args.out.now stopped (omega (arith, c.if-out-syms.false)))

pub loop-sym-preserved : goal.loop-sym-preserved
loop-sym-preserved c =
    let fine : sym_fault c.args.self.now (get_or c.args.syms.now c.loop-sym.sym-index 0) ≡ None = search rules in
    let best : AreBest c.args.self.now (get_or c.args.syms.now c.loop-sym.sym-index 0) c.best.new.out = search rules in
    record {
      counted = ap (λ (n : ℕ). n + 1) c.loop-sym.invariant.counted;
      room = length-set c.loop-sym.out c.loop-sym.place c.best.new.out ∙ c.loop-sym.invariant.room;
      reached_is = answered-one_more (sym_fault c.args.self.now) c.args.syms.now c.loop-sym.sym-index c.loop-sym.place 0
          c.loop-sym-test.true c.loop-sym.invariant.reached_is fine;
      best = written-one_more (AreBest c.args.self.now) c.args.syms.now c.loop-sym.out c.loop-sym.place 0 c.best.new.out
          (omega (arith, c.loop-sym.invariant.counted, c.loop-sym-test.true))
          (omega (arith, c.loop-sym.invariant.counted, c.loop-sym-test.true, c.loop-sym.invariant.room, c.if-out-syms.false))
          c.loop-sym.invariant.best
          (subst (λ (n : ℕ). AreBest c.args.self.now (get_or c.args.syms.now n 0) c.best.new.out) (sym c.loop-sym.invariant.counted) best);
    }
