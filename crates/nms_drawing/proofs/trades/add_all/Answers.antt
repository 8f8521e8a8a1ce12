-- `add_all`: each turn adds an execution, by `next_shown`, `mapped_turn` and `passed_turn`.
use Rattle.std.proofs.Common.{◌≡◌, ◌+◌, ◌++◌, ◌∷◌, ℕ, List, Option, ap, drop, length, map, sym, ◌∙◌, arith}
use Rattle.std.proofs.lemmas.List.{drop_more, length-append, length-map}
use Rattle.nms_trades.specs.declared.execution.Execution.{Execution}
use Rattle.nms_trades.specs.declared.finding.Finding.{Finding}
use Rattle.nms_drawing.specs.Trades.{Shown, execution_row, execution_rows, ids_of, passed_rows, shown_if, shown_of}
use Rattle.nms_drawing.proofs.TradeLemmas.{mapped_turn, next_shown, passed_turn}
use Rattle.nms_drawing.proofs.trades.add_all.Goals as goal

pub loop-place-preserved : goal.loop-place-preserved
loop-place-preserved c =
    let window = c.args.window.now in
    let executions = c.args.executions.now in
    let found = c.args.findings.now in
    let place = c.loop-place.place in
    let execution : Execution = c.index-executions-place.result in
    let finding : Option Finding = c.index-findings-place.result in
    let had = c.loop-place.invariant in
    let added = c.in_ok-add_one.ensures in
    let one : drop place executions ≡ execution ∷ drop (place + 1) executions =
    drop_more executions place execution c.loop-place-test.true
    ∙ ap (λ (e : Execution). e ∷ drop (place + 1) executions) (sym c.index-executions-place.is) in
    let other : drop place found ≡ finding ∷ drop (place + 1) found =
    drop_more found place finding (omega (arith, c.loop-place-test.true, c.requires.same))
    ∙ ap (λ (f : Option Finding). f ∷ drop (place + 1) found) (sym c.index-findings-place.is) in
    let first : List Shown = shown_if window execution finding in
    let rest : List Shown = shown_of window (drop (place + 1) executions) (drop (place + 1) found) in
    let parts : shown_of window (drop place executions) (drop place found) ≡ first ++ rest =
    next_shown window executions found place execution finding one other in
    let all : List Shown = shown_of window executions found in
    let left : List Shown = shown_of window (drop place executions) (drop place found) in
    let more : length c.add_one.new.rows.executions.items ≡ length c.loop-place.rows.executions.items + length first =
    ap (λ (rows : List (List ℕ)). length rows) added.executions
    ∙ length-append c.loop-place.rows.executions.items (execution_rows window first)
    ∙ ap (λ (n : ℕ). length c.loop-place.rows.executions.items + n) (length-map first (execution_row window)) in
    record {
      executions = mapped_turn (execution_row window) c.loop-place.rows.executions.items (execution_rows window all)
          c.add_one.new.rows.executions.items
          left first rest parts added.executions had.executions;
      passed = passed_turn (length c.loop-place.rows.executions.items) c.loop-place.rows.passed.items (passed_rows all)
          c.add_one.new.rows.passed.items left first rest (length c.add_one.new.rows.executions.items) more parts added.passed had.passed;
      ids = mapped_turn (λ (shown : Shown). shown.execution.name.items) (map (λ text. text.now) c.loop-place.rows.ids.items) (ids_of all)
          (map (λ text. text.now) c.add_one.new.rows.ids.items) left first rest parts added.ids had.ids;
    }
