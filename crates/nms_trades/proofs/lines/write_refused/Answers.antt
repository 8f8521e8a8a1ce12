-- `write_refused`: the turns of its loop, by `text-before` and `left-before`; its end, by `text-after` or `drop_all`.
use Rattle.std.proofs.Common.{◌≡◌, ◌+◌, ◌∷◌, ◌<◌, ◌≤◌, [], true, drop, length, ap, sym, ◌∙◌, arith}
use Rattle.std.proofs.lemmas.List.{drop_all}
use Rattle.nms_lines.specs.Text.{text_of}
use Rattle.nms_trades.specs.Answers.{is_before, refused_text}
use Rattle.nms_trades.specs.Answers.{refusal_in}
use Rattle.nms_trades.specs.declared.execution_file.Refusal.{Refusal}
use Rattle.nms_trades.proofs.AnswerFacts.{anyway_failed, going_cut, going_done, going_on, left-before, text-after, text-before}
use Rattle.nms_trades.proofs.lines.write_refused.Goals as goal

pub loop-place-preserved : goal.loop-place-preserved
loop-place-preserved g c =
    let had = c.loop-place.invariant in
    let shape = c.args.shape in
    let number = c.args.number in
    let refused = c.args.records.now.refused.items in
    let place = c.loop-place.place in
    let one : Refusal = c.index-refusal.result.now in
    let below : place < length refused = omega (arith, c.loop-place-test.true, c.len-place-end.ensures) in
    let before : is_before number one ≡ true = sym c.stands_before.ensures ∙ c.if-not-stands_before.false in
    record {
      going = λ lines.
          going_on (g.W.Write.contents c.args.answers.now) (g.W.Write.contents c.loop-place.answers) (g.W.Write.contents
          c.write_one.new.answers) (refused_text shape number (drop c.args.first refused)) (refused_text shape number (drop place refused))
          (text_of (refusal_in shape one ∷ [])) (refused_text shape number (drop (place + 1) refused)) (had.going lines)
          (c.in_ok-write_one.ensures.written lines) (text-before shape number refused place one below c.index-refusal.ensures before);
      left = had.left ∙ left-before number refused place one below c.index-refusal.ensures before;
    }

pub returns-then-not-stands_before-clause-written : goal.returns-then-not-stands_before-clause-written
returns-then-not-stands_before-clause-written g c = λ lines.
    let shape = c.args.shape in
    let number = c.args.number in
    let refused = c.args.records.now.refused.items in
    let place = c.loop-place.place in
    let below : place < length refused = omega (arith, c.loop-place-test.true, c.len-place-end.ensures) in
    going_done (g.W.Write.contents c.args.answers.now) (g.W.Write.contents c.loop-place.answers) (refused_text shape number (drop
    c.args.first refused)) (refused_text shape number (drop place refused)) (c.loop-place.invariant.going lines)
    (text-after shape number refused place c.index-refusal.result.now below c.index-refusal.ensures (sym c.stands_before.ensures
    ∙ c.if-not-stands_before.true))

pub returns-in_err-write_one-clause-cut : goal.returns-in_err-write_one-clause-cut
returns-in_err-write_one-clause-cut g c = λ lines.
    let shape = c.args.shape in
    let number = c.args.number in
    let refused = c.args.records.now.refused.items in
    let place = c.loop-place.place in
    let one : Refusal = c.index-refusal.result.now in
    let below : place < length refused = omega (arith, c.loop-place-test.true, c.len-place-end.ensures) in
    anyway_failed c.from_residual.result
    (going_cut (g.W.Write.contents c.args.answers.now) (g.W.Write.contents c.loop-place.answers) (g.W.Write.contents
    c.write_one.new.answers) (refused_text shape number (drop c.args.first refused)) (refused_text shape number (drop place refused))
    (text_of (refusal_in shape one ∷ [])) (refused_text shape number (drop (place + 1) refused)) (c.loop-place.invariant.going lines)
    (c.in_err-write_one.ensures.cut lines) (text-before shape number refused place one below c.index-refusal.ensures
    (sym c.stands_before.ensures ∙ c.if-not-stands_before.false)))

pub returns-clause-written : goal.returns-clause-written
returns-clause-written g c = λ lines.
    let shape = c.args.shape in
    let number = c.args.number in
    let refused = c.args.records.now.refused.items in
    let place = c.loop-place.place in
    let over : length refused ≤ place = omega (arith, c.loop-place-test.false, c.len-place-end.ensures) in
    going_done (g.W.Write.contents c.args.answers.now) (g.W.Write.contents c.loop-place.answers) (refused_text shape number (drop
    c.args.first refused)) (refused_text shape number (drop place refused)) (c.loop-place.invariant.going lines)
    (ap (refused_text shape number) (drop_all place refused over))
