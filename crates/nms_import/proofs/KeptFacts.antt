-- What a row does depends on what each venue shows, and on nothing else of what is kept.
use Rattle.std.proofs.Common.{ℕ, ◌≡◌, ◌∙◌, Option, Some, None, ap, refl, subst, sym}
use Rattle.std.specs.Prelude.{◌==◌, ◌&&◌, if◌then◌else◌, OnOk, Result, Ok, Err}
use Rattle.nms_quote.specs.Roster.{Listing}
use Rattle.nms_quote.specs.declared.change.Change.{Change}
use Rattle.nms_quote.specs.declared.change.Change.TheVariants as change
use Rattle.nms_lines.specs.Layout.{Record}
use Rattle.nms_import.specs.declared.cause.Cause.{Cause}
use Rattle.nms_import.specs.declared.column.Columns.{Columns}
use Rattle.nms_import.specs.declared.column.RowColumns.{RowColumns}
use Rattle.nms_import.specs.declared.entry.Entry.{Entry}
use Rattle.nms_import.specs.declared.meanings.Meanings.{Meanings}
use Rattle.nms_import.specs.declared.meanings.SideWords.{SideWords}
use Rattle.nms_import.specs.declared.side_rows.SideRow.{SideRow}
use Rattle.nms_import.specs.declared.side_rows.Sides.{Sides}
use Rattle.nms_import.specs.Imported.{given_as, given_at, given_by, given_of, given_or, given_row, kept_at, kept_by, kept_left, kept_of}
use Rattle.nms_import.specs.Imported.{kept_or, made_as, made_at, made_by, made_of, made_or, numbered, side_said}
use Rattle.nms_import.specs.Mapping.{columns_of, entry_of, left_by}
use Rattle.nms_import.specs.SideRows.{IsKept, Kept, Stored, no_sides, put, quote_after, sides_after, step_of, without}

-- each venue shows the same
abbrev pub Same : Kept → Kept → Type 0
Same kept other = (part symbol : ℕ) → kept part symbol ≡ other part symbol

-- what a row gives
given_said : (mapping : Meanings) (kept other : Kept) (entry : Entry) (said : Option SideRow) → Same kept other
    → given_of mapping kept entry said ≡ given_of mapping other entry said
given_said mapping kept other entry None same = refl
given_said mapping kept other entry (Some row) same =
    ap (λ (sides : Sides). given_as row (step_of mapping.half mapping.withdraws sides row)) (same row.part row.sym)

given_read : (columns : Columns) (mapping : Meanings) (roster : Listing) (last : ℕ) (kept other : Kept) (row : Record)
    (read : Result Entry Cause) → Same kept other
    → given_or columns mapping roster last kept row read ≡ given_or columns mapping roster last other row read
given_read columns mapping roster last kept other row (Err why) same = refl
given_read columns mapping roster last kept other row (Ok entry) same =
    given_said mapping kept other entry (side_said columns mapping row entry) same

pub given_same : (columns : RowColumns) (own : Columns) (mapping : Meanings) (roster : Listing) (time last : ℕ) (kept other : Kept)
    (row : Record) → own ≡ columns_of columns mapping row → time ≡ last → Same kept other
    → given_at own mapping roster time kept row ≡ given_by columns mapping roster last other row
given_same columns own mapping roster time last kept other row is_own is_last same =
    ap (λ (it : Columns). given_at it mapping roster time kept row) is_own
    ∙ ap (λ (t : ℕ). given_by columns mapping roster t kept row) is_last
    ∙ given_read (columns_of columns mapping row) mapping roster last kept other row
    (entry_of (columns_of columns mapping row) mapping roster row) same

-- with its number, and the time of the change before it
pub row_same : (columns : RowColumns) (own : Columns) (mapping : Meanings) (roster : Listing) (time last : ℕ) (kept other : Kept)
    (n number : ℕ) (row : Record) → own ≡ columns_of columns mapping row → time ≡ last → n ≡ number → Same kept other
    → numbered n (given_at own mapping roster time kept row) ≡ given_row columns mapping roster last other number row
row_same columns own mapping roster time last kept other n number row is_own is_last is_number same =
    ap (λ (m : ℕ). numbered m (given_at own mapping roster time kept row)) is_number
    ∙ ap (numbered number) (given_same columns own mapping roster time last kept other row is_own is_last same)

-- the change that it makes itself
made_said : (mapping : Meanings) (kept other : Kept) (entry : Entry) (said : Option SideRow) → Same kept other
    → made_of mapping kept entry said ≡ made_of mapping other entry said
made_said mapping kept other entry None same = refl
made_said mapping kept other entry (Some row) same =
    ap (λ (sides : Sides). made_as row (sides_after sides row) (quote_after mapping.half sides row)) (same row.part row.sym)

made_read : (columns : Columns) (mapping : Meanings) (kept other : Kept) (row : Record) (read : Result Entry Cause) → Same kept other
    → made_or columns mapping kept row read ≡ made_or columns mapping other row read
made_read columns mapping kept other row (Err why) same = refl
made_read columns mapping kept other row (Ok entry) same =
    made_said mapping kept other entry (side_said columns mapping row entry) same

pub made_same : (columns : RowColumns) (own : Columns) (mapping : Meanings) (roster : Listing) (kept other : Kept) (row : Record)
    → own ≡ columns_of columns mapping row → Same kept other
    → made_at own mapping roster kept row ≡ made_by columns mapping roster other row
made_same columns own mapping roster kept other row is_own same =
    ap (λ (it : Columns). made_at it mapping roster kept row) is_own
    ∙ made_read (columns_of columns mapping row) mapping kept other row (entry_of (columns_of columns mapping row) mapping roster row) same

-- what each venue shows after it
put_same : (kept other : Kept) (part symbol : ℕ) (sides others : Sides) → sides ≡ others → Same kept other
    → Same (put kept part symbol sides) (put other part symbol others)
put_same kept other part symbol sides others are_same same p s =
    ap (λ (it : Sides). if p == part && s == symbol then it else kept p s) are_same
    ∙ ap (λ (it : Sides). if p == part && s == symbol then others else it) (same p s)

without_same : (kept other : Kept) (said : Change) → Same kept other → Same (without kept said) (without other said)
without_same kept other (change.Quote part symbol state bid offer) same = put_same kept other part symbol no_sides no_sides refl same
without_same kept other (change.State part symbol state) same = same
without_same kept other (change.Withdraw part) same = same
without_same kept other (change.Lot symbol lot) same = same

left_same : (sides : Option SideWords) (kept other : Kept) (left : Option Entry) → Same kept other
    → Same (kept_left sides kept left) (kept_left sides other left)
left_same None kept other left same = same
left_same (Some words) kept other None same = same
left_same (Some words) kept other (Some left) same = without_same kept other left.change same

kept_said : (mapping : Meanings) (kept other : Kept) (said : Option SideRow) → Same kept other
    → Same (kept_of mapping kept said) (kept_of mapping other said)
kept_said mapping kept other None same = same
kept_said mapping kept other (Some row) same =
    put_same kept other row.part row.sym (step_of mapping.half mapping.withdraws (kept row.part row.sym) row).sides
    (step_of mapping.half mapping.withdraws (other row.part row.sym) row).sides
    (ap (λ (sides : Sides). (step_of mapping.half mapping.withdraws sides row).sides) (same row.part row.sym)) same

kept_read : (columns : Columns) (mapping : Meanings) (roster : Listing) (last : ℕ) (kept other : Kept) (row : Record)
    (read : Result Entry Cause) → Same kept other
    → Same (kept_or columns mapping roster last kept row read) (kept_or columns mapping roster last other row read)
kept_read columns mapping roster last kept other row (Err why) same =
    left_same mapping.sides kept other (left_by columns mapping roster last row why) same
kept_read columns mapping roster last kept other row (Ok entry) same =
    kept_said mapping kept other (side_said columns mapping row entry) same

pub kept_same : (columns : RowColumns) (own : Columns) (mapping : Meanings) (roster : Listing) (time last : ℕ) (kept other : Kept)
    (row : Record) → own ≡ columns_of columns mapping row → time ≡ last → Same kept other
    → Same (kept_at own mapping roster time kept row) (kept_by columns mapping roster last other row)
kept_same columns own mapping roster time last kept other row is_own is_last same part symbol =
    ap (λ (it : Columns). kept_at it mapping roster time kept row part symbol) is_own
    ∙ ap (λ (t : ℕ). kept_by columns mapping roster t kept row part symbol) is_last
    ∙ kept_read (columns_of columns mapping row) mapping roster last kept other row
    (entry_of (columns_of columns mapping row) mapping roster row) same part symbol

-- by what a row was read as, or why it was not
pub kept_read_as : (columns : Columns) (mapping : Meanings) (roster : Listing) (last : ℕ) (kept : Kept) (row : Record) (entry : Entry)
    (said : Option SideRow) → entry_of columns mapping roster row ≡ Ok entry → side_said columns mapping row entry ≡ said
    → kept_at columns mapping roster last kept row ≡ kept_of mapping kept said
kept_read_as columns mapping roster last kept row entry said is_read is_said =
    ap (kept_or columns mapping roster last kept row) is_read ∙ ap (kept_of mapping kept) is_said

-- what is kept stays, as far as a call that is fine leaves it
pub kept_stays : {A E : Type 0} (result : Result A E) (old new : Stored) (kept : Kept) → OnOk result (new ≡ old) → IsKept old kept
    → OnOk result (IsKept new kept)
kept_stays (Ok x) old new kept same is = subst (λ (it : Stored). IsKept it kept) (sym same) is
kept_stays (Err e) old new kept same is = tt

-- what a row leaves is what was found, by the time that was taken
pub left_is : (entry : Entry) (found : Option Entry) (left : ℕ → Option Entry) (last time : ℕ)
    → found ≡ Some entry → found ≡ left last → last ≡ time → Some entry ≡ left time
left_is entry found left last time is_found is_left is_last = sym is_found ∙ is_left ∙ ap left is_last
