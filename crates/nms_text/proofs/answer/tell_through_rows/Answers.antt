-- `tell_through_rows`: the turns of its loop.
use Rattle.std.proofs.Common.{arith, ◌++◌, ◌∷◌, [], map, take, ap, sym, ◌∙◌, append_assoc}
use Rattle.std.proofs.lemmas.Grind.{common_steps}
use Rattle.std.proofs.lemmas.List.{take_more}
use Rattle.std.proofs.lemmas.List.Concat.{flat_map-append}
use Rattle.std.proofs.lemmas.List.{map-append}
use Rattle.nms_lines.specs.Text.{record_text, text_of}
use Rattle.nms_text.specs.Answers.{through_row}
use Rattle.nms_text.proofs.answer.tell_through_rows.Goals as goal

pub loop-side-preserved : goal.loop-side-preserved
loop-side-preserved c =
    let record_of = through_row c.args.roster.now in
    let before = take c.loop-side.side-index c.args.quotations.now in
    let quotation = c.loop-side-item.result in
    let more = take_more c.args.quotations.now c.loop-side.side-index quotation c.loop-side-test.true in
    let whole = more ∙ ap (λ one. before ++ one ∷ []) (sym c.loop-side-item.is) in
    let split = ap (map record_of) whole ∙ map-append record_of before (quotation ∷ []) in
    let texts = ap text_of split ∙ flat_map-append record_text (map record_of before) (record_of quotation ∷ []) in
    c.in_ok-tell_through_row.ensures
    ∙ ap (λ out. out ++ text_of (record_of quotation ∷ [])) c.loop-side.invariant
    ∙ append_assoc c.args.out.now.items (text_of (map record_of before)) (text_of (record_of quotation ∷ []))
    ∙ ap (λ text. c.args.out.now.items ++ text) (sym texts)

-- ---- goals that `grind` closes; the search that is tried before it takes longer

pub returns : goal.returns
returns c = grind (arith, common_steps)
