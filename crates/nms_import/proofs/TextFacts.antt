-- What is written of the rows so far and of one more.
use Rattle.std.proofs.Common.{ℕ, ◌≡◌, ◌+◌, Bool, List, [], ◌∷◌, ◌++◌, Option, Some, None, length, map, refl, sym, ap, subst}
use Rattle.std.proofs.Common.{◌∙◌, append_assoc, arith, length-append}
use Rattle.std.specs.Prelude.{filter, flat_map, OnOk, Result, Ok, Err}
use Rattle.std.proofs.lemmas.List.{append-nil, map-append}
use Rattle.std.proofs.lemmas.List.Concat.{flat_map-append}
use Rattle.std.proofs.lemmas.List.Elements.{filter-append}
use Rattle.std.specs.Io.KnownBytes.{Appends}
use Rattle.csv.proofs.WriteFacts.{appends-more}
use Rattle.nms_quote.specs.Roster.{Listing}
use Rattle.nms_lines.specs.Layout.{Record}
use Rattle.nms_lines.specs.Text.{record_text}
use Rattle.nms_change_text.specs.ChangeText.{change_record}
use Rattle.nms_import.specs.declared.column.RowColumns.{RowColumns}
use Rattle.nms_import.specs.declared.entry.Entry.{Entry}
use Rattle.nms_import.specs.declared.meanings.Meanings.{Meanings}
use Rattle.nms_import.specs.Imported.{Given, accepted, changes_given, given_by, given_from, given_row, halves_in, kept_by, kept_from}
use Rattle.nms_import.specs.Imported.{last_after, last_of, line_of, listed, made_by, numbered, one_sided, times_given}
use Rattle.nms_import.specs.SideRows.{Kept}

-- what is so after the rows and one more: the time of the last change, and what each venue shows
pub last_more : (columns : RowColumns) (mapping : Meanings) (roster : Listing) (last : ℕ) (kept : Kept) (rows : List Record) (row : Record)
    → last_of columns mapping roster last kept (rows ++ row ∷ [])
    ≡ last_after (last_of columns mapping roster last kept rows) (given_by columns mapping roster
    (last_of columns mapping roster last kept rows) (kept_from columns mapping roster last kept rows) row)
last_more columns mapping roster last kept [] row = refl
last_more columns mapping roster last kept (first ∷ rows) row =
    last_more columns mapping roster (last_after last (given_by columns mapping roster last kept first))
    (kept_by columns mapping roster last kept first) rows row

pub kept_more : (columns : RowColumns) (mapping : Meanings) (roster : Listing) (last : ℕ) (kept : Kept) (rows : List Record) (row : Record)
    → kept_from columns mapping roster last kept (rows ++ row ∷ [])
    ≡ kept_by columns mapping roster (last_of columns mapping roster last kept rows)
    (kept_from columns mapping roster last kept rows) row
kept_more columns mapping roster last kept [] row = refl
kept_more columns mapping roster last kept (first ∷ rows) row =
    kept_more columns mapping roster (last_after last (given_by columns mapping roster last kept first))
    (kept_by columns mapping roster last kept first) rows row

-- the entries of the rows and of one more
entries_more : (columns : RowColumns) (mapping : Meanings) (roster : Listing) (last : ℕ) (kept : Kept) (rows : List Record) (row : Record)
    → accepted columns mapping roster last kept (rows ++ row ∷ [])
    ≡ accepted columns mapping roster last kept rows
    ++ listed (made_by columns mapping roster (kept_from columns mapping roster last kept rows) row)
entries_more columns mapping roster last kept [] row = append-nil (listed (made_by columns mapping roster kept row))
entries_more columns mapping roster last kept (first ∷ rows) row =
    let one : List Entry = listed (made_by columns mapping roster kept first) in
    let next : ℕ = last_after last (given_by columns mapping roster last kept first) in
    let then : Kept = kept_by columns mapping roster last kept first in
    ap (λ (rest : List Entry). one ++ rest) (entries_more columns mapping roster next then rows row)
    ∙ sym (append_assoc one (accepted columns mapping roster next then rows)
    (listed (made_by columns mapping roster (kept_from columns mapping roster next then rows) row)))

-- what the rows and one more give
pub given_more : (columns : RowColumns) (mapping : Meanings) (roster : Listing) (last : ℕ) (kept : Kept) (before : ℕ) (rows : List Record)
    (row : Record)
    → given_from columns mapping roster last kept before (rows ++ row ∷ [])
    ≡ given_from columns mapping roster last kept before rows
    ++ given_row columns mapping roster (last_of columns mapping roster last kept rows) (kept_from columns mapping roster last kept rows)
    (before + length rows + 1) row
given_more columns mapping roster last kept before [] row =
    let same : before + 1 ≡ before + 0 + 1 = omega arith in
    append-nil (given_row columns mapping roster last kept (before + 1) row)
    ∙ ap (λ (n : ℕ). given_row columns mapping roster last kept n row) same
given_more columns mapping roster last kept before (first ∷ rows) row =
    let one : List Given = given_row columns mapping roster last kept (before + 1) first in
    let next : ℕ = last_after last (given_by columns mapping roster last kept first) in
    let then : Kept = kept_by columns mapping roster last kept first in
    let counted : before + 1 + length rows + 1 ≡ before + length (first ∷ rows) + 1 = omega arith in
    ap (λ (rest : List Given). one ++ rest) (given_more columns mapping roster next then (before + 1) rows row)
    ∙ ap (λ (n : ℕ). one ++ (given_from columns mapping roster next then (before + 1) rows
    ++ given_row columns mapping roster (last_of columns mapping roster next then rows)
    (kept_from columns mapping roster next then rows) n row)) counted
    ∙ sym (append_assoc one (given_from columns mapping roster next then (before + 1) rows)
    (given_row columns mapping roster (last_of columns mapping roster next then rows) (kept_from columns mapping roster next then rows)
    (before + length (first ∷ rows) + 1) row))

-- the text of the changes
changes_more : (roster : Listing) (before more : List Given)
    → changes_given roster before ++ changes_given roster more ≡ changes_given roster (before ++ more)
changes_more roster before more =
    sym (ap (λ cs. flat_map record_text (map (change_record roster) cs)) (map-append (λ (it : Given). it.entry.change) before more)
    ∙ ap (flat_map record_text) (map-append (change_record roster) (map (λ it. it.entry.change) before) (map (λ it. it.entry.change) more))
    ∙ flat_map-append record_text (map (change_record roster) (map (λ it. it.entry.change) before))
    (map (change_record roster) (map (λ it. it.entry.change) more)))

-- one row more was written
pub changes_on : (columns : RowColumns) (mapping : Meanings) (roster : Listing) (last : ℕ) (kept : Kept) (before : ℕ) (rows : List Record)
    (row : Record) (old now new : Option (List ℕ))
    → Appends old now (changes_given roster (given_from columns mapping roster last kept before rows))
    → Appends now new (changes_given roster (given_row columns mapping roster (last_of columns mapping roster last kept rows)
    (kept_from columns mapping roster last kept rows) (before + length rows + 1) row))
    → Appends old new (changes_given roster (given_from columns mapping roster last kept before (rows ++ row ∷ [])))
changes_on columns mapping roster last kept before rows row old now new first next =
    let had : List Given = given_from columns mapping roster last kept before rows in
    let one : List Given = given_row columns mapping roster (last_of columns mapping roster last kept rows)
    (kept_from columns mapping roster last kept rows) (before + length rows + 1) row in
    subst (Appends old new)
    (changes_more roster had one ∙ ap (changes_given roster) (sym (given_more columns mapping roster last kept before rows row)))
    (appends-more old now new (changes_given roster had) (changes_given roster one) first next)

-- with its times
pub times_on : (numbers : Bool) (columns : RowColumns) (mapping : Meanings) (roster : Listing) (last : ℕ) (kept : Kept) (before : ℕ)
    (rows : List Record) (row : Record) (old now new : Option (List ℕ))
    → Appends old now (times_given numbers (given_from columns mapping roster last kept before rows))
    → Appends now new (times_given numbers (given_row columns mapping roster (last_of columns mapping roster last kept rows)
    (kept_from columns mapping roster last kept rows) (before + length rows + 1) row))
    → Appends old new (times_given numbers (given_from columns mapping roster last kept before (rows ++ row ∷ [])))
times_on numbers columns mapping roster last kept before rows row old now new first next =
    let had : List Given = given_from columns mapping roster last kept before rows in
    let one : List Given = given_row columns mapping roster (last_of columns mapping roster last kept rows)
    (kept_from columns mapping roster last kept rows) (before + length rows + 1) row in
    subst (Appends old new)
    (sym (flat_map-append (λ (it : Given). line_of numbers it.row it.entry.time) had one)
    ∙ ap (times_given numbers) (sym (given_more columns mapping roster last kept before rows row)))
    (appends-more old now new (times_given numbers had) (times_given numbers one) first next)

-- and counted
pub given_count : (columns : RowColumns) (mapping : Meanings) (roster : Listing) (last : ℕ) (kept : Kept) (before : ℕ) (rows : List Record)
    (row : Record)
    → length (given_from columns mapping roster last kept before (rows ++ row ∷ []))
    ≡ length (given_from columns mapping roster last kept before rows)
    + length (given_row columns mapping roster (last_of columns mapping roster last kept rows)
    (kept_from columns mapping roster last kept rows) (before + length rows + 1) row)
given_count columns mapping roster last kept before rows row =
    ap length (given_more columns mapping roster last kept before rows row)
    ∙ length-append (given_from columns mapping roster last kept before rows)
    (given_row columns mapping roster (last_of columns mapping roster last kept rows) (kept_from columns mapping roster last kept rows)
    (before + length rows + 1) row)

-- the time of one entry was written
pub one_time : (numbers : Bool) (number : ℕ) (entry : Entry) (old new : Option (List ℕ))
    → Appends old new (line_of numbers number entry.time)
    → Appends old new (times_given numbers (numbered number (Some entry)))
one_time numbers number entry old new written =
    subst (Appends old new) (sym (append-nil (line_of numbers number entry.time))) written

-- and counted
pub accepted_more : (columns : RowColumns) (mapping : Meanings) (roster : Listing) (last : ℕ) (kept : Kept) (rows : List Record) (row : Record)
    → length (accepted columns mapping roster last kept (rows ++ row ∷ []))
    ≡ length (accepted columns mapping roster last kept rows)
    + length (listed (made_by columns mapping roster (kept_from columns mapping roster last kept rows) row))
accepted_more columns mapping roster last kept rows row =
    ap length (entries_more columns mapping roster last kept rows row)
    ∙ length-append (accepted columns mapping roster last kept rows)
    (listed (made_by columns mapping roster (kept_from columns mapping roster last kept rows) row))

pub one_sided_more : (columns : RowColumns) (mapping : Meanings) (roster : Listing) (last : ℕ) (kept : Kept) (rows : List Record) (row : Record)
    → one_sided columns mapping roster last kept (rows ++ row ∷ [])
    ≡ one_sided columns mapping roster last kept rows
    + halves_in (listed (made_by columns mapping roster (kept_from columns mapping roster last kept rows) row))
one_sided_more columns mapping roster last kept rows row =
    let before = accepted columns mapping roster last kept rows in
    let one = listed (made_by columns mapping roster (kept_from columns mapping roster last kept rows) row) in
    ap halves_in (entries_more columns mapping roster last kept rows row)
    ∙ ap length (filter-append (λ (entry : Entry). entry.one_sided) before one)
    ∙ length-append (filter (λ (entry : Entry). entry.one_sided) before) (filter (λ (entry : Entry). entry.one_sided) one)

-- nothing was written
pub none_written : (old : Option (List ℕ)) → Appends old old []
none_written None = tt
none_written (Some x) = sym (append-nil x)

-- what holds whatever a result is, holds if it is fine
pub always_on_ok : {A E P : Type 0} (r : Result A E) → P → OnOk r P
always_on_ok (Ok x) p = p
always_on_ok (Err e) p = tt
