-- `mark_traded`: each turn marks the symbol of its execution, and at the end the first one if there was none.
use Rattle.std.proofs.Common.{◌≡◌, ◌<◌, ◌==◌, ◌&&◌, ◌||◌, ℕ, Bool, List, arith, ap, false, get_or, length, map, not, refl}
use Rattle.std.proofs.Common.{subst, sym, take, true, ◌∙◌, ◌+◌}
use Rattle.std.specs.List.{range_with_len}
use Rattle.std.proofs.lemmas.Grind.{common_steps}
use Rattle.std.proofs.lemmas.List.{length-set, take_all}
use Rattle.nms_trades.specs.declared.execution.Execution.{Execution}
use Rattle.nms_drawing.specs.Drawn.{has_day, is_any_own, is_traded}
use Rattle.nms_drawing.proofs.DayLemmas.{all_marked, first_marked, more_own, more_traded, none_marked, none_yet, or_false, or_true, set_marked}
use Rattle.nms_drawing.proofs.content.mark_traded.Goals.{then-not-execution, else-not-execution, else-not-is_any-via-else-not-is_any}
use Rattle.nms_drawing.proofs.content.mark_traded.Goals.{else-not-is_any-via-then-not-is_any+else-not-is_empty}
use Rattle.nms_drawing.proofs.content.mark_traded.Goals as goal

pub loop-execution-init : goal.loop-execution-init
loop-execution-init c = record {
  len = refl;
  marked = λ s. none_yet c.args.marks.now s c.requires.none;
  any = refl;
}

pub loop-execution-preserved : goal.loop-execution-preserved
loop-execution-preserved c =
    let all = c.args.executions.now in
    let n = c.loop-execution.execution-index in
    let one : Execution = c.execution-item.result in
    let was = c.loop-execution.marks in
    let before = c.loop-execution.invariant in
    let some = c.loop-execution-test.true in
    let is = c.execution-item.is in
    let known : one.sym < length c.args.marks.now =
    subst (λ (e : Execution). e.sym < length c.args.marks.now) (sym is) (c.requires.symbols n one some) in
    elim c.if-not-execution.branch [
      | then-not-execution w ↦
          let at : w.from.result ≡ one.sym = grind (arith, common_steps) in
          let own : one.other ≡ false = cc in
          let below : w.from.result < length was = omega (arith, at, before.len, known) in
          record {
            len = ap length w.marks-is ∙ length-set was w.from.result true ∙ before.len;
            marked = λ s. ap (λ (marks : List Bool). get_or marks s false) w.marks-is ∙ set_marked was w.from.result s below
                ∙ ap (λ (b : Bool). b || w.from.result == s) (before.marked s)
                ∙ ap (λ (k : ℕ). is_traded (take n all) s || k == s) at
                ∙ sym (ap (λ (o : Bool). is_traded (take n all) s || (not o && one.sym == s)) own)
                ∙ sym (more_traded all n one s some is);
            any = w.is_any-is ∙ sym (more_own all n one some is ∙ ap (λ (o : Bool). is_any_own (take n all) || not o) own
                ∙ or_true (is_any_own (take n all)));
          }
      | else-not-execution w ↦
          let other : one.other ≡ true = cc in
          record {
            len = ap length w.marks-is ∙ before.len;
            marked = λ s. ap (λ (marks : List Bool). get_or marks s false) w.marks-is ∙ before.marked s
                ∙ sym (or_false (is_traded (take n all) s))
                ∙ sym (ap (λ (o : Bool). is_traded (take n all) s || (not o && one.sym == s)) other)
                ∙ sym (more_traded all n one s some is);
            any = w.is_any-is ∙ before.any ∙ sym (more_own all n one some is
                ∙ ap (λ (o : Bool). is_any_own (take n all) || not o) other ∙ or_false (is_any_own (take n all)));
          }
    ]

pub returns-then-not-is_empty : goal.returns-then-not-is_empty
returns-then-not-is_empty c =
    let all = c.args.executions.now in
    let marks = c.loop-execution.marks in
    let is = c.loop-execution.invariant in
    let done : take c.loop-execution.execution-index all ≡ all =
    take_all c.loop-execution.execution-index all (omega (arith, c.loop-execution-test.false)) in
    let some : 0 < length marks = grind (arith, common_steps) in
    first_marked marks all (λ s. is.marked s ∙ ap (λ (those : List Execution). is_traded those s) done)
    (sym (ap is_any_own done) ∙ sym is.any ∙ c.if-not-is_any.true) some
    ∙ ap (λ (n : ℕ). map (has_day all) (range_with_len 0 n)) is.len

pub returns-else-not-is_any : goal.returns-else-not-is_any
returns-else-not-is_any c =
    let all = c.args.executions.now in
    let marks = c.loop-execution.marks in
    let is = c.loop-execution.invariant in
    let done : take c.loop-execution.execution-index all ≡ all =
    take_all c.loop-execution.execution-index all (omega (arith, c.loop-execution-test.false)) in
    elim c.else-not-is_any.branch [
      | else-not-is_any-via-then-not-is_any+else-not-is_empty w ↦
          let none : length marks ≡ 0 = grind (arith, common_steps) in
          none_marked marks (has_day all) none ∙ ap (λ (n : ℕ). map (has_day all) (range_with_len 0 n)) is.len
      | else-not-is_any-via-else-not-is_any w ↦
          let some : c.loop-execution.is_any ≡ true = cc in
          all_marked marks all (λ s. is.marked s ∙ ap (λ (those : List Execution). is_traded those s) done)
          (sym (ap is_any_own done) ∙ sym is.any ∙ some)
          ∙ ap (λ (n : ℕ). map (has_day all) (range_with_len 0 n)) is.len
    ]
