-- `append_rows`: the turns of its loop.
use Rattle.std.proofs.Common.{◌≡◌, ◌++◌, ◌∷◌, ◌+◌, ◌<◌, [], take, length, ap, sym, ◌∙◌, append_assoc, arith}
use Rattle.std.proofs.Math.Nat.{min-eq_left}
use Rattle.std.proofs.lemmas.List.{append-nil, length-take, take_more}
use Rattle.std.proofs.lemmas.List.Concat.{flat_map-append}
use Rattle.nms_lines.specs.Text.{record_text, text_of}
use Rattle.nms_trades.specs.Counts.{flickers_at}
use Rattle.nms_trades.specs.Lines.{records_of_row, row_records}
use Rattle.nms_trades.proofs.LineFacts.{row_records-more}
use Rattle.nms_trades.proofs.line.append_rows.Goals as goal

pub loop-place-init : goal.loop-place-init
unfolding row_records
loop-place-init c = sym (append-nil c.args.out.now.items)

pub loop-place-preserved : goal.loop-place-preserved
loop-place-preserved c =
    let roster = c.args.roster.now in
    let execution = c.args.execution.now in
    let finding = c.args.finding.now in
    let passed = c.args.finding.now.passed.items in
    let place = c.loop-place.place in
    let one = c.index.result.now in
    let before = take place passed in
    let below : place < length passed = omega (arith, c.loop-place-test.true, c.len-place-end.ensures) in
    let whole : take (place + 1) passed ≡ before ++ one ∷ [] =
    take_more passed place one below ∙ ap (λ it. before ++ it ∷ []) (sym c.index.ensures) in
    let long : length before ≡ place = length-take place passed ∙ min-eq_left (omega (arith, below)) in
    let at : 0 + length before ≡ place = omega (arith, long) in
    let own = records_of_row roster execution one.0 one.1 (flickers_at finding (0 + length before)) in
    let marked = c.is_flickering.ensures ∙ ap (flickers_at finding) (sym at) in
    let appended : c.append_left.new.out.items ≡ c.loop-place.out.items ++ text_of own =
    c.in_ok-append_left.ensures
    ∙ ap (λ it. c.loop-place.out.items ++ text_of (records_of_row roster execution one.0 one.1 it)) marked in
    let records = ap (row_records roster execution finding 0) whole ∙ row_records-more roster execution finding 0 before one in
    let texts = ap text_of records ∙ flat_map-append record_text (row_records roster execution finding 0 before) own in
    appended
    ∙ ap (λ out. out ++ text_of own) c.loop-place.invariant
    ∙ append_assoc c.args.out.now.items (text_of (row_records roster execution finding 0 before)) (text_of own)
    ∙ ap (λ text. c.args.out.now.items ++ text) (sym texts)
