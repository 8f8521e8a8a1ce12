-- `write_each`: the turns of its loop, by `order-at`, and its end, by `order-end`.
use Rattle.std.proofs.Common.{◌≡◌, ◌+◌, ◌++◌, ◌<◌, ◌≤◌, [], List, ℕ, Some, None, drop, length, ap, sym, refl, ◌∙◌, arith}
use Rattle.std.proofs.lemmas.List.{append-nil, drop_all}
use Rattle.nms_lines.specs.Text.{text_of}
use Rattle.nms_trades.specs.Answers.{answer_records, answers_in, found_at, in_order, refused_left, refused_text, text_of_answers}
use Rattle.nms_trades.specs.Answers.Answer.{Judged}
use Rattle.nms_trades.specs.declared.execution.Execution.{Execution}
use Rattle.nms_trades.specs.declared.execution_file.Refusal.{Refusal}
use Rattle.nms_trades.proofs.AnswerFacts.{anyway_failed, going_cut, going_done, going_from, going_on, order-at, order-end}
use Rattle.nms_trades.proofs.lines.write_each.Goals as goal

pub loop-place-init : goal.loop-place-init
loop-place-init g c = λ lines. going_from _ _ _ refl

pub returns-in_err-refused-clause-cut : goal.returns-in_err-refused-clause-cut
returns-in_err-refused-clause-cut g c = λ lines.
    let shape = c.args.shape in
    let roster = c.args.roster.now in
    let found = c.args.findings.now in
    let executions = c.args.records.now.executions.items in
    let refused = c.args.records.now.refused.items in
    let place = c.loop-place.place in
    let execution : Execution = c.index-execution.result.now in
    let left = drop c.loop-place.refused refused in
    let below : place < length executions = omega (arith, c.loop-place-test.true, c.len-place-end.ensures) in
    anyway_failed c.from_residual.result
    (going_cut (g.W.Write.contents c.args.answers.now) (g.W.Write.contents c.loop-place.answers) (g.W.Write.contents
    c.write_refused.new.answers)
    (answers_in shape roster executions refused found) (text_of_answers shape roster (in_order found place (drop place executions) left))
    (refused_text shape (Some execution.number) left) _ (c.loop-place.invariant lines) (c.in_err-refused.ensures.cut lines)
    (order-at shape roster found place executions left execution below c.index-execution.ensures))

pub returns-in_err-write_judged-clause-cut : goal.returns-in_err-write_judged-clause-cut
returns-in_err-write_judged-clause-cut g c = λ lines.
    let shape = c.args.shape in
    let roster = c.args.roster.now in
    let found = c.args.findings.now in
    let executions = c.args.records.now.executions.items in
    let refused = c.args.records.now.refused.items in
    let place = c.loop-place.place in
    let execution : Execution = c.index-execution.result.now in
    let left = drop c.loop-place.refused refused in
    let own = text_of (answer_records shape roster (Judged execution (found_at found place))) in
    let later = text_of_answers shape roster (in_order found (place + 1) (drop (place + 1) executions) (refused_left (Some execution.number)
    left)) in
    let below : place < length executions = omega (arith, c.loop-place-test.true, c.len-place-end.ensures) in
    anyway_failed c.from_residual-in_err-write_judged.result
    (going_cut (g.W.Write.contents c.args.answers.now) (g.W.Write.contents c.write_refused.new.answers) (g.W.Write.contents
    c.write_judged.new.answers)
    (answers_in shape roster executions refused found) (own ++ later) own later
    (going_on (g.W.Write.contents c.args.answers.now) (g.W.Write.contents c.loop-place.answers) (g.W.Write.contents
    c.write_refused.new.answers)
    (answers_in shape roster executions refused found) (text_of_answers shape roster (in_order found place (drop place executions) left))
    (refused_text shape (Some execution.number) left) (own ++ later) (c.loop-place.invariant lines) (c.in_ok-refused.ensures.written lines)
    (order-at shape roster found place executions left execution below c.index-execution.ensures))
    (c.in_err-write_judged.ensures.cut lines) refl)

pub loop-place-preserved : goal.loop-place-preserved
loop-place-preserved g c = λ lines.
    let shape = c.args.shape in
    let roster = c.args.roster.now in
    let found = c.args.findings.now in
    let executions = c.args.records.now.executions.items in
    let refused = c.args.records.now.refused.items in
    let place = c.loop-place.place in
    let execution : Execution = c.index-execution.result.now in
    let left = drop c.loop-place.refused refused in
    let own = text_of (answer_records shape roster (Judged execution (found_at found place))) in
    let answered = λ (list : List Refusal). text_of_answers shape roster (in_order found (place + 1) (drop (place + 1) executions) list) in
    let later = answered (refused_left (Some execution.number) left) in
    let below : place < length executions = omega (arith, c.loop-place-test.true, c.len-place-end.ensures) in
    let next : later ≡ answered (drop c.in_ok-refused.refused refused) = ap answered (sym c.in_ok-refused.ensures.next) in
    going_on (g.W.Write.contents c.args.answers.now) (g.W.Write.contents c.write_refused.new.answers) (g.W.Write.contents
    c.write_judged.new.answers)
    (answers_in shape roster executions refused found) (own ++ later) own (answered (drop c.in_ok-refused.refused refused))
    (going_on (g.W.Write.contents c.args.answers.now) (g.W.Write.contents c.loop-place.answers) (g.W.Write.contents
    c.write_refused.new.answers)
    (answers_in shape roster executions refused found) (text_of_answers shape roster (in_order found place (drop place executions) left))
    (refused_text shape (Some execution.number) left) (own ++ later) (c.loop-place.invariant lines) (c.in_ok-refused.ensures.written lines)
    (order-at shape roster found place executions left execution below c.index-execution.ensures))
    (c.in_ok-write_judged.ensures.written lines) (ap (λ (t : List ℕ). own ++ t) next)

pub returns-in_err-write_refused-clause-cut : goal.returns-in_err-write_refused-clause-cut
returns-in_err-write_refused-clause-cut g c = λ lines.
    let shape = c.args.shape in
    let roster = c.args.roster.now in
    let found = c.args.findings.now in
    let executions = c.args.records.now.executions.items in
    let refused = c.args.records.now.refused.items in
    let place = c.loop-place.place in
    let left = drop c.loop-place.refused refused in
    let over : length executions ≤ place = omega (arith, c.loop-place-test.false, c.len-place-end.ensures) in
    anyway_failed c.from_residual-in_err-write_refused.result
    (going_cut (g.W.Write.contents c.args.answers.now) (g.W.Write.contents c.loop-place.answers) (g.W.Write.contents
    c.write_refused-2.new.answers)
    (answers_in shape roster executions refused found) (text_of_answers shape roster (in_order found place (drop place executions) left))
    (refused_text shape None left) [] (c.loop-place.invariant lines) (c.in_err-write_refused.ensures.cut lines)
    (ap (λ list. text_of_answers shape roster (in_order found place list left)) (drop_all place executions over)
    ∙ order-end shape roster found place left ∙ sym (append-nil (refused_text shape None left))))

pub returns-clause-written : goal.returns-clause-written
returns-clause-written g c = λ lines.
    let shape = c.args.shape in
    let roster = c.args.roster.now in
    let found = c.args.findings.now in
    let executions = c.args.records.now.executions.items in
    let refused = c.args.records.now.refused.items in
    let place = c.loop-place.place in
    let left = drop c.loop-place.refused refused in
    let over : length executions ≤ place = omega (arith, c.loop-place-test.false, c.len-place-end.ensures) in
    going_done (g.W.Write.contents c.args.answers.now) (g.W.Write.contents c.write_refused-2.new.answers)
    (answers_in shape roster executions refused found) []
    (going_on (g.W.Write.contents c.args.answers.now) (g.W.Write.contents c.loop-place.answers) (g.W.Write.contents
    c.write_refused-2.new.answers)
    (answers_in shape roster executions refused found) (text_of_answers shape roster (in_order found place (drop place executions) left))
    (refused_text shape None left) [] (c.loop-place.invariant lines) (c.in_ok-write_refused.ensures.written lines)
    (ap (λ list. text_of_answers shape roster (in_order found place list left)) (drop_all place executions over)
    ∙ order-end shape roster found place left ∙ sym (append-nil (refused_text shape None left))))
    refl
