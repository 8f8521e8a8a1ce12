-- How the text of changes is written, record by record.
use Rattle.std.proofs.Common.{ℕ, ◌≡◌, ◌<◌, ◌+◌, ◌++◌, List, [], ◌∷◌, Option, length, map, take, drop, get_or, refl, sym, ap, subst, ◌∙◌}
use Rattle.std.proofs.Common.{append_assoc}
use Rattle.std.proofs.lemmas.List.{append-nil, map-append, take-append-drop}
use Rattle.std.proofs.lemmas.List.Concat.{flat_map-append}
use Rattle.std.specs.Io.KnownBytes.{Appends}
use Rattle.csv.proofs.WriteFacts.{appends-more}
use Rattle.nms_quote.specs.Roster.{Listing}
use Rattle.nms_quote.specs.declared.change.Change.{Change}
use Rattle.nms_lines.specs.Text.{record_text, text_of}
use Rattle.nms_lines.specs.Written.{AppendsPart}
use Rattle.nms_lines.proofs.Offered.{part_more, records_more}
use Rattle.nms_change_text.specs.ChangeText.{change_record, changes_text}

-- the text of the first changes and one more
one_more : (roster : Listing) (changes : List Change) (i : ℕ) (said : Change) → i < length changes → said ≡ get_or changes i said
    → changes_text roster (take i changes) ++ text_of (change_record roster said ∷ []) ≡ changes_text roster (take (i + 1) changes)
one_more roster changes i said within is = records_more (change_record roster) changes i said [] (changes_text roster (take i changes))
    (changes_text roster (take i changes) ++ text_of (change_record roster said ∷ [])) within is refl refl

-- one record more was written
pub written_on : (roster : Listing) (changes : List Change) (i : ℕ) (said : Change) (old now new : Option (List ℕ))
    → i < length changes → said ≡ get_or changes i said
    → Appends old now (changes_text roster (take i changes)) → Appends now new (text_of (change_record roster said ∷ []))
    → Appends old new (changes_text roster (take (i + 1) changes))
written_on roster changes i said old now new within is first next =
    subst (Appends old new) (one_more roster changes i said within is)
    (appends-more old now new (changes_text roster (take i changes)) (text_of (change_record roster said ∷ [])) first next)

-- the text of changes is that of its first ones and of the others
parted : (roster : Listing) (changes : List Change) (i : ℕ)
    → changes_text roster (take i changes) ++ changes_text roster (drop i changes) ≡ changes_text roster changes
parted roster changes i =
    sym (ap text_of (map-append (change_record roster) (take i changes) (drop i changes))
    ∙ flat_map-append record_text (map (change_record roster) (take i changes)) (map (change_record roster) (drop i changes)))
    ∙ ap (changes_text roster) (take-append-drop i changes)

-- a prefix of a text is one of a longer text
part_wider : (old new : Option (List ℕ)) (text more : List ℕ) → AppendsPart old new text → AppendsPart old new (text ++ more)
part_wider old new text more part = record {
  part = part.part;
  rest = part.rest ++ more;
  split = ap (λ (t : List ℕ). t ++ more) part.split ∙ append_assoc part.part part.rest more;
  written = part.written;
}

-- the writing ended within a record
pub part_on : (roster : Listing) (changes : List Change) (i : ℕ) (said : Change) (old now new : Option (List ℕ))
    → i < length changes → said ≡ get_or changes i said
    → Appends old now (changes_text roster (take i changes)) → AppendsPart now new (text_of (change_record roster said ∷ []))
    → AppendsPart old new (changes_text roster changes)
part_on roster changes i said old now new within is first next =
    subst (AppendsPart old new) (parted roster changes (i + 1))
    (part_wider old new (changes_text roster (take (i + 1) changes)) (changes_text roster (drop (i + 1) changes))
    (subst (AppendsPart old new) (one_more roster changes i said within is)
    (part_more old now new (changes_text roster (take i changes)) (text_of (change_record roster said ∷ [])) first next)))
