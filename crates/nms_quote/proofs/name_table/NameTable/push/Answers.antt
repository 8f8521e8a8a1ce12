-- `NameTable::push`: the invariant with one entry more, by `words_of-added` and `values_of-added`.
use Rattle.std.proofs.Common.{◌≡◌, ◌++◌, ◌∷◌, [], ap, ◌∙◌}
use Rattle.nms_quote.specs.Names.{named, values_of, words_of}
use Rattle.nms_quote.proofs.WordLemmas.{values_of-added, words_of-added}
use Rattle.nms_quote.proofs.name_table.NameTable.push.Goals as goal

pub invariant_of-self-2 : goal.invariant_of-self-2
invariant_of-self-2 g c =
    let put : named c.put_last.new.entries.entries ≡ named c.self.inside.entries.entries ++ (c.args.name.now, c.args.value) ∷ [] =
    rw c.if-not-put_last.false at c.put_last.ensures.added in
    let added = put ∙ ap (λ t. t ++ (c.args.name.now, c.args.value) ∷ []) c.self.view_is in (
      c.put_last.ensures.unique,
      c.in-Ok.ensures.items ∙ words_of-added c.args.self.now (named c.put_last.new.entries.entries) c.self.inside.words.items
          (c.self.invariant.1 ∙ ap words_of c.self.view_is) c.args.name.now c.args.value c.word_of-word.result c.word_of-word.ensures added,
      c.in-Ok-push.ensures.items ∙ values_of-added c.args.self.now (named c.put_last.new.entries.entries) c.self.inside.values.items
          (c.self.invariant.2 ∙ ap values_of c.self.view_is) c.args.name.now c.args.value added,
    )
