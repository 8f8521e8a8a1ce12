-- `write_row`: all that it promises, by `line_written`, `rest_written`, `number_column`, `part_column`,
-- `side_is_word` and `word_column`.
use Rattle.std.proofs.Common.{[], ◌∷◌, refl, ap, ◌∙◌}
use Rattle.nms_units.specs.Price.{price_text}
use Rattle.nms_text.specs.Report.{at_right, mark_word}
use Rattle.nms_text.proofs.ColumnFacts.{line_written, rest_written, number_column, part_column, side_is_word, word_column}
use Rattle.nms_text.proofs.report_text.write_row.Goals as goal

pub returns : goal.returns
returns g c =
    let row = c.args.row.now in
    let side = word_column _ 5 _ _ refl c.laid_out.ensures c.word_of_side-side.ensures (side_is_word c.args.side) in
    let part = part_column _ c.args.roster.now row.part c.part_name-part.result.now c.laid_out-2.ensures c.part_name-part.ensures.name
    c.part_name-part.ensures.form in
    let size = number_column _ 9 row.size row.size c.laid_out-3.ensures refl in
    let receipt = number_column _ 8 row.receipt row.receipt c.laid_out-4.ensures refl in
    let mark = c.mark_of-mark.ensures ∙ ap mark_word c.is_best.ensures in
    line_written c.writeln.result _ _ _ _
    (λ i. side i ∷ part i ∷ at_right 12 (price_text row.price) ∷ size i ∷ receipt i ∷ c.word_of_state-state.ensures i ∷ mark i ∷ [])
    (rest_written c.writeln.result _ _ _ (_ ∷ _ ∷ _ ∷ []) _ (_ ∷ _ ∷ _ ∷ []) c.in_ok-write.ensures.bytes c.writeln.ensures.bytes)
