-- What is written of the rows of a vendor's file. This product's own rule.
use Rattle.std.specs.Prelude.{◌≡◌, ℕ, ◌≤◌, ◌+◌, ◌/◌, is_some, Bool, true, false, List, [], ◌∷◌, ◌++◌, length, map, filter, flat_map}
use Rattle.std.specs.Prelude.{Option, Some, None, option_and_then, option_map, Result, Ok, Err}
use Rattle.nms_units.specs.Money.{three_digits}
use Rattle.nms_quote.specs.Roster.{Listing}
use Rattle.nms_quote.specs.declared.change.Change.{Change}
use Rattle.nms_lines.specs.Layout.{Record}
use Rattle.nms_change_text.specs.ChangeText.{changes_text}
use Rattle.nms_import.specs.declared.cause.Cause.{Cause}
use Rattle.nms_import.specs.declared.column.Columns.{Columns}
use Rattle.nms_import.specs.declared.column.RowColumns.{RowColumns}
use Rattle.nms_import.specs.declared.entry.Entry.{Entry}
use Rattle.nms_import.specs.declared.meanings.Meanings.{Meanings}
use Rattle.nms_import.specs.declared.meanings.SideWords.{SideWords}
use Rattle.nms_import.specs.declared.side_rows.SideRow.{SideRow}
use Rattle.nms_import.specs.declared.side_rows.Sides.{Sides}
use Rattle.nms_import.specs.declared.tally.Tally.{Tally}
use Rattle.nms_import.specs.Mapping.{column_text, columns_of, entry_of, left_by, side_in}
use Rattle.nms_import.specs.SideRows.{Kept, Step, Stored, entry_at, kept_after, quote_after, side_row, sides_after, step_of, without}

-- the last 15 digits of a number; those of a time are HHMMSSnnnnnnnnn
abbrev pub fifteen_digits : ℕ → List ℕ
fifteen_digits n =
    three_digits (n / 1000000000000) ++ three_digits (n / 1000000000) ++ three_digits (n / 1000000) ++ three_digits (n / 1000)
    ++ three_digits n

-- a time and a line feed: 16 bytes
abbrev pub time_line : ℕ → List ℕ
time_line t = fifteen_digits t ++ 10 ∷ []

-- a time, a comma, the number of its row and a line feed: 32 bytes
abbrev pub numbered_line : (row t : ℕ) → List ℕ
numbered_line row t = fifteen_digits t ++ 44 ∷ fifteen_digits row ++ 10 ∷ []

-- the line of a time, with the number of its row or without
abbrev pub line_of : (numbers : Bool) → (row t : ℕ) → List ℕ
line_of true row t = numbered_line row t
line_of false row t = time_line t

-- what a row says of its side, if each row has one
abbrev pub side_said : Columns → Meanings → Record → Entry → Option SideRow
side_said columns mapping row entry =
    option_and_then (λ side. side_row side entry.time entry.change) (side_in mapping.sides (column_text columns.side row))

-- an entry, if there is one
abbrev pub entry_in : Result Entry Cause → Option Entry
entry_in (Ok entry) = Some entry
entry_in (Err why) = None

-- ---- the change that a row makes itself: of both sides, or what a row of one side makes of what its venue shows

abbrev pub made_as : SideRow → Sides → Result Change Cause → Option Entry
made_as row sides (Ok said) = Some (entry_at row sides said)
made_as row sides (Err why) = None

abbrev pub made_in : Meanings → Kept → SideRow → Option Entry
made_in mapping kept row =
    made_as row (sides_after (kept row.part row.sym) row) (quote_after mapping.half (kept row.part row.sym) row)

abbrev pub made_of : Meanings → Kept → Entry → Option SideRow → Option Entry
made_of mapping kept entry None = Some entry
made_of mapping kept entry (Some row) = made_in mapping kept row

abbrev pub made_or : Columns → Meanings → Kept → Record → Result Entry Cause → Option Entry
made_or columns mapping kept row (Err why) = None
made_or columns mapping kept row (Ok entry) = made_of mapping kept entry (side_said columns mapping row entry)

abbrev pub made_at : Columns → Meanings → Listing → Kept → Record → Option Entry
made_at columns mapping roster kept row = made_or columns mapping kept row (entry_of columns mapping roster row)

-- its columns are those of its side, if each row has one
abbrev pub made_by : RowColumns → Meanings → Listing → Kept → Record → Option Entry
made_by columns mapping roster kept row = made_at (columns_of columns mapping row) mapping roster kept row

-- ---- what a row gives: its own change, or what it leaves if it makes none

-- its entry, or what it leaves if it has none
abbrev pub given_in : Result Entry Cause → (left : Option Entry) → Option Entry
given_in (Ok entry) left = Some entry
given_in (Err why) left = left

abbrev pub given_as : SideRow → Step → Option Entry
given_as row step = option_map (entry_at row step.sides) step.change

abbrev pub step_in : Meanings → Kept → SideRow → Step
step_in mapping kept row = step_of mapping.half mapping.withdraws (kept row.part row.sym) row

abbrev pub given_of : Meanings → Kept → Entry → Option SideRow → Option Entry
given_of mapping kept entry None = Some entry
given_of mapping kept entry (Some row) = given_as row (step_in mapping kept row)

abbrev pub given_or : Columns → Meanings → Listing → (last : ℕ) → Kept → Record → Result Entry Cause → Option Entry
given_or columns mapping roster last kept row (Err why) = left_by columns mapping roster last row why
given_or columns mapping roster last kept row (Ok entry) = given_of mapping kept entry (side_said columns mapping row entry)

abbrev pub given_at : Columns → Meanings → Listing → (last : ℕ) → Kept → Record → Option Entry
given_at columns mapping roster last kept row =
    given_or columns mapping roster last kept row (entry_of columns mapping roster row)

abbrev pub given_by : RowColumns → Meanings → Listing → (last : ℕ) → Kept → Record → Option Entry
given_by columns mapping roster last kept row = given_at (columns_of columns mapping row) mapping roster last kept row

-- ---- what each venue shows of each symbol after a row, as rows of one side say

abbrev pub kept_of : Meanings → Kept → Option SideRow → Kept
kept_of mapping kept None = kept
kept_of mapping kept (Some row) = kept_after mapping.half mapping.withdraws kept row

abbrev pub kept_left : Option SideWords → Kept → Option Entry → Kept
kept_left None kept left = kept
kept_left (Some words) kept None = kept
kept_left (Some words) kept (Some left) = without kept left.change

abbrev pub kept_or : Columns → Meanings → Listing → (last : ℕ) → Kept → Record → Result Entry Cause → Kept
kept_or columns mapping roster last kept row (Err why) = kept_left mapping.sides kept (left_by columns mapping roster last row why)
kept_or columns mapping roster last kept row (Ok entry) = kept_of mapping kept (side_said columns mapping row entry)

abbrev pub kept_at : Columns → Meanings → Listing → (last : ℕ) → Kept → Record → Kept
kept_at columns mapping roster last kept row = kept_or columns mapping roster last kept row (entry_of columns mapping roster row)

abbrev pub kept_by : RowColumns → Meanings → Listing → (last : ℕ) → Kept → Record → Kept
kept_by columns mapping roster last kept row = kept_at (columns_of columns mapping row) mapping roster last kept row

-- ---- rows one after another

-- a change with its time, and the number of the row that gave it
pub record Given : Type 0 where
  pub row : ℕ
  pub entry : Entry

abbrev pub numbered : (row : ℕ) → Option Entry → List Given
numbered row None = []
numbered row (Some entry) = record { row = row; entry = entry } ∷ []

-- the time of the last change
abbrev pub last_after : (last : ℕ) → Option Entry → ℕ
last_after last None = last
last_after last (Some entry) = entry.time

-- what the row of a number gives; the last change before it had this time, and each venue showed this
abbrev pub given_row : RowColumns → Meanings → Listing → (last : ℕ) → Kept → (number : ℕ) → Record → List Given
given_row columns mapping roster last kept number row = numbered number (given_by columns mapping roster last kept row)

-- what rows give, in order, after the given number of rows
abbrev pub given_from : RowColumns → Meanings → Listing → (last : ℕ) → Kept → (before : ℕ) → List Record → List Given
given_from columns mapping roster last kept before [] = []
given_from columns mapping roster last kept before (row ∷ rows) =
    given_row columns mapping roster last kept (before + 1) row
    ++ given_from columns mapping roster (last_after last (given_by columns mapping roster last kept row))
    (kept_by columns mapping roster last kept row) (before + 1) rows

-- the time of the last change after rows
abbrev pub last_of : RowColumns → Meanings → Listing → (last : ℕ) → Kept → List Record → ℕ
last_of columns mapping roster last kept [] = last
last_of columns mapping roster last kept (row ∷ rows) =
    last_of columns mapping roster (last_after last (given_by columns mapping roster last kept row))
    (kept_by columns mapping roster last kept row) rows

-- what each venue shows of each symbol after rows
abbrev pub kept_from : RowColumns → Meanings → Listing → (last : ℕ) → Kept → List Record → Kept
kept_from columns mapping roster last kept [] = kept
kept_from columns mapping roster last kept (row ∷ rows) =
    kept_from columns mapping roster (last_after last (given_by columns mapping roster last kept row))
    (kept_by columns mapping roster last kept row) rows

-- the entries of the rows that make one, in order
abbrev pub listed : Option Entry → List Entry
listed None = []
listed (Some entry) = entry ∷ []

abbrev pub accepted : RowColumns → Meanings → Listing → (last : ℕ) → Kept → List Record → List Entry
accepted columns mapping roster last kept [] = []
accepted columns mapping roster last kept (row ∷ rows) =
    listed (made_by columns mapping roster kept row)
    ++ accepted columns mapping roster (last_after last (given_by columns mapping roster last kept row))
    (kept_by columns mapping roster last kept row) rows

-- if each row has one side, there is room for what is shown of the roster's symbols
abbrev pub HasRoom : Meanings → Listing → Stored → Type 0
HasRoom mapping roster stored = is_some mapping.sides ≡ true → length roster.syms ≤ stored.symbols

-- the text of the changes
abbrev pub changes_given : Listing → List Given → List ℕ
changes_given roster given = changes_text roster (map (λ it. it.entry.change) given)

-- the text of their times, with the numbers of the rows or without
abbrev pub times_given : (numbers : Bool) → List Given → List ℕ
times_given numbers given = flat_map (λ it. line_of numbers it.row it.entry.time) given

-- how many of some entries make only one side manual, by a condition or by a row of one side
abbrev pub halves_in : List Entry → ℕ
halves_in entries = length (filter (λ entry. entry.one_sided) entries)

abbrev pub one_sided : RowColumns → Meanings → Listing → (last : ℕ) → Kept → List Record → ℕ
one_sided columns mapping roster last kept rows =
    halves_in (accepted columns mapping roster last kept rows)

-- the rows that made a change
abbrev pub changes_in : Tally → ℕ
changes_in tally = tally.wholes + tally.halves

-- the rows that were refused, of all causes
abbrev pub refused_in : Tally → ℕ
refused_in tally =
    tally.too_few_columns + tally.bad_time + tally.unknown_participant + tally.unknown_symbol + tally.unknown_condition
    + tally.one_sided + tally.unknown_side + tally.bad_price + tally.bad_size + tally.half_side + tally.returned

-- the rows that were skipped, of all causes
abbrev pub skipped_in : Tally → ℕ
skipped_in tally = tally.trailer + tally.listed + tally.other_symbol

-- all rows
abbrev pub rows_in : Tally → ℕ
rows_in tally = changes_in tally + refused_in tally + skipped_in tally
