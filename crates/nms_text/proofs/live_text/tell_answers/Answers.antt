-- `tell_answers`: the turns of its loop.
use Rattle.std.proofs.Common.{arith, ◌++◌, ◌∷◌, [], take, ap, sym, ◌∙◌, append_assoc}
use Rattle.std.proofs.lemmas.Grind.{common_steps}
use Rattle.std.specs.List.{flat_map}
use Rattle.std.proofs.lemmas.List.{append-nil, take_more}
use Rattle.std.proofs.lemmas.List.Concat.{flat_map-append}
use Rattle.nms_lines.specs.Text.{record_text, text_of}
use Rattle.nms_text.specs.LiveText.{answer_records}
use Rattle.nms_text.proofs.live_text.tell_answers.Goals as goal

pub loop-answer-preserved : goal.loop-answer-preserved
loop-answer-preserved c =
    let records = answer_records c.args.roster.now in
    let before = take c.loop-answer.answer-index c.args.answers.now in
    let answer = c.answer-item.result in
    let more = take_more c.args.answers.now c.loop-answer.answer-index answer c.loop-answer-test.true in
    let whole = more ∙ ap (λ one. before ++ one ∷ []) (sym c.answer-item.is) in
    let split = ap (flat_map records) whole ∙ flat_map-append records before (answer ∷ [])
    ∙ ap (λ last. flat_map records before ++ last) (append-nil (records answer)) in
    let texts = ap text_of split ∙ flat_map-append record_text (flat_map records before) (records answer) in
    c.in_ok-tell_answer.ensures
    ∙ ap (λ out. out ++ text_of (records answer)) c.loop-answer.invariant
    ∙ append_assoc c.args.out.now.items (text_of (flat_map records before)) (text_of (records answer))
    ∙ ap (λ text. c.args.out.now.items ++ text) (sym texts)

-- ---- goals that `grind` closes; the search that is tried before it takes longer

pub returns : goal.returns
returns c = grind (arith, common_steps)
