-- `write_pair`: all that it promises, by `line_written`, `pair_is_word`, `part_column` and `word_column`.
use Rattle.std.proofs.Common.{[], ◌∷◌, refl}
use Rattle.nms_text.proofs.ColumnFacts.{line_written, pair_is_word, part_column, word_column}
use Rattle.nms_text.proofs.report_text.write_pair.Goals as goal

pub returns : goal.returns
returns g c =
    let roster = c.args.roster.now in
    let pair = c.args.pair.now in
    let word = word_column _ 5 _ _ refl c.laid_out.ensures c.word_of_pair-word.ensures (pair_is_word pair.crossed) in
    let bid = part_column _ roster pair.bid.part c.part_name-bid.result.now c.laid_out-2.ensures c.part_name-bid.ensures.name
    c.part_name-bid.ensures.form in
    let offer = part_column _ roster pair.offer.part c.part_name-offer.result.now c.laid_out-3.ensures c.part_name-offer.ensures.name
    c.part_name-offer.ensures.form in
    let later = part_column _ roster pair.later c.part_name-later.result.now c.laid_out-4.ensures c.part_name-later.ensures.name
    c.part_name-later.ensures.form in
    line_written c.writeln.result _ _ _ _ (λ i. word i ∷ bid i ∷ offer i ∷ later i ∷ c.word_of_clause-clause.ensures i ∷ [])
    c.writeln.ensures.bytes
