-- `put_last`: clause `added` and the call of `unwrap`, by `named-insert_entry`.
use Rattle.std.proofs.Common.{◌≡◌, refl, ◌∙◌, Result, Ok, Err}
use Rattle.std.proofs.lemmas.Result.{MatchResult-at_ok}
use Rattle.std.specs.String.{string_bytes}
use Rattle.std.specs.Result.{MatchResult, IsOk}
use Rattle.nms_quote.specs.Names.{named}
use Rattle.nms_quote.proofs.TableLemmas.{named-insert_entry}
use Rattle.nms_quote.proofs.name_table.put_last.Goals as goal

-- text is read
ok_from_text : {T E : Type 0} (read : Result T E) (P : T → Type 0) (IsText : Type 0) (Q : E → Type 0)
    → MatchResult read P (λ e. (IsText → ⊥) × Q e) → IsText → IsOk read
ok_from_text (Ok text) P IsText Q h is_text = refl
ok_from_text (Err e) P IsText Q h text = absurd (h.0 text)

pub unwrap-text-requires : goal.unwrap-text-requires
unwrap-text-requires g c = ok_from_text _ _ _ _ c.from_utf8.ensures.cases c.requires.text

pub returns-clause-added : goal.returns-clause-added
returns-clause-added g c =
    let name : string_bytes c.in-Ok.owned ≡ c.args.name.now = c.in-Ok.ensures.ok
    ∙ (MatchResult-at_ok _ _ _ c.unwrap-text.ensures c.from_utf8.ensures.cases).0 in
    named-insert_entry c.args.entries.now (named c.args.entries.now.entries) refl c.in-Ok.owned c.args.value c.args.name.now name
    c.requires.absent c.insert.new.self.entries c.in-Ok-insert.ensures.entries
