-- `NameTable::find`: clause `place` if a hint is right, by `name_at-word` and `place_in-own`.
use Rattle.std.proofs.Common.{sym, ap, ◌∙◌, arith}
use Rattle.nms_quote.specs.Names.{words_of}
use Rattle.nms_quote.proofs.TableLemmas.{place_in-own}
use Rattle.nms_quote.proofs.WordLemmas.{name_at-word}
use Rattle.nms_quote.proofs.name_table.NameTable.find.Goals as goal

pub returns-then-index-word-clause-place : goal.returns-then-index-word-clause-place
returns-then-index-word-clause-place g c =
    sym (place_in-own c.self.inside.entries.entries c.self.invariant.0 c.args.self.now c.self.view_is c.place_for-place.result
    c.args.name.now (name_at-word c.args.self.now c.self.inside.words.items (c.self.invariant.1 ∙ ap words_of c.self.view_is)
    c.place_for-place.result c.index.result.now c.args.name.now c.word_of-word.result (omega arith) (sym c.index.ensures
    ∙ c.if-index-word.true) (sym c.word_of-word.ensures) (omega arith)))
