-- What is noted of the rows that made a change, and what an import is doubted for. This product's own rule.
use Rattle.std.specs.Prelude.{ℕ, ◌+◌, ◌*◌, ◌&&◌, ◌||◌, not, Bool, false, List, nat_le, nat_lt, replicate}
use Rattle.std.specs.Prelude.{Option, Some, None, unwrap_or, if◌then◌else◌, slice_get, slice_set}
use Rattle.std.specs.Option.{option_map_or}
use Rattle.nms_quote.specs.Content.{Content}
use Rattle.nms_quote.specs.Roster.{Listing}
use Rattle.nms_quote.specs.declared.change.Change.{Change}
use Rattle.nms_quote.specs.declared.change.Change.TheVariants as change
use Rattle.nms_import.specs.declared.entry.Entry.{Entry}
use Rattle.nms_import.specs.declared.guard.Guard.{Guard}
use Rattle.nms_import.specs.declared.guard.Guard.TheVariants as guard
use Rattle.nms_import.specs.declared.last_lines.LastLines.{LastLines}
use Rattle.nms_import.specs.declared.mapping.Order.{Order}
use Rattle.nms_import.specs.declared.mapping.Order.TheVariants as order
use Rattle.nms_import.specs.declared.noting.Span.{Span}
use Rattle.nms_import.specs.declared.tally.Sums.{Sums}
use Rattle.nms_import.specs.LastLines.{before_files}

-- the order that the mapping promises, how many changes there are, how many of them at an hour without a market, the time of the
-- last, whether a time was before the one that it may not be before, whether a side showed a round lot, each symbol's changes,
-- and the last lines of files
pub record Noted : Type 0 where
  pub order : Order
  pub changes : ℕ
  pub outside : ℕ
  pub time : ℕ
  pub falls : Bool
  pub shows_lot : Bool
  pub spans : List (Option Span)
  pub lasts : LastLines

-- nothing yet, of n symbols
abbrev pub noted_nothing : Order → (count : Option ℕ) → (symbols : ℕ) → Noted
noted_nothing promised count symbols = record {
  order = promised;
  changes = 0;
  outside = 0;
  time = 0;
  falls = false;
  shows_lot = false;
  spans = replicate symbols None;
  lasts = before_files count;
}

-- before 04:00 or after 20:00
abbrev pub is_outside : (time : ℕ) → Bool
is_outside time = nat_lt time 40000000000000 || nat_lt 200000000000000 time

-- one more, if the time is outside
abbrev pub with_outside : (count time : ℕ) → ℕ
with_outside count time = if is_outside time then count + 1 else count

-- the changes of a symbol so far
abbrev pub span_of : Noted → (sym : ℕ) → Option Span
span_of noted sym = unwrap_or (slice_get noted.spans sym) None

-- the time that a change may not be before: that of the last change, or of its symbol's last change, or none
abbrev pub bound_by : Order → (time : ℕ) → Option Span → ℕ
bound_by order.Given time span = time
bound_by order.Symbol time span = option_map_or (λ it. it.time) span 0
bound_by order.Free time span = 0

-- a time that is before it
abbrev pub is_fall : Noted → (sym time : ℕ) → Bool
is_fall noted sym time = nat_lt time (bound_by noted.order noted.time (span_of noted sym))

-- the symbol's changes with one more, which makes this version
abbrev pub with_change : Option Span → (sym version time : ℕ) → Span
with_change span sym version time =
    record { sym = sym; first = option_map_or (λ it. it.first) span version; last = version; time = time }

-- the shares of a side, 0 if there is no quotation
abbrev pub shares_shown : Option Content → ℕ
shares_shown side = option_map_or (λ it. it.shares) side 0

-- whether a side has at least the symbol's round lot
abbrev pub is_lot_shown : Listing → (sym : ℕ) → (bid offer : Option Content) → Bool
is_lot_shown roster sym bid offer =
    option_map_or (λ entry. nat_le entry.1 (shares_shown bid) || nat_le entry.1 (shares_shown offer)) (slice_get roster.syms sym) false

-- what is noted after a quotation
abbrev pub after_quote : Listing → Noted → (sym time : ℕ) → (bid offer : Option Content) → Noted
after_quote roster noted sym time bid offer = record {
  order = noted.order;
  changes = noted.changes + 1;
  outside = with_outside noted.outside time;
  time = time;
  falls = noted.falls || is_fall noted sym time;
  shows_lot = noted.shows_lot || is_lot_shown roster sym bid offer;
  spans = slice_set noted.spans sym (Some (with_change (span_of noted sym) sym (noted.changes + 1) time));
  lasts = noted.lasts;
}

-- after one that is no quotation: it is only counted, with its time
abbrev pub after_other : Noted → (time : ℕ) → Noted
after_other noted time = record noted { changes = noted.changes + 1; outside = with_outside noted.outside time; time = time }

-- after a change
abbrev pub after_change : Listing → Noted → (time : ℕ) → Change → Noted
after_change roster noted time (change.Quote part sym state bid offer) = after_quote roster noted sym time bid offer
after_change roster noted time (change.State part sym state) = after_other noted time
after_change roster noted time (change.Withdraw part) = after_other noted time
after_change roster noted time (change.Lot sym lot) = after_other noted time

abbrev pub after_entry : Listing → Noted → Entry → Noted
after_entry roster noted entry = after_change roster noted entry.time entry.change

-- more than half of the changes lie outside
abbrev pub are_hours_odd : Noted → Bool
are_hours_odd noted = nat_lt noted.changes (2 * noted.outside)

-- the first doubt that holds: more than half of the rows refused, changes without a round lot, a time that falls, a last line
-- that counts other rows or is absent, no row that made a change
abbrev pub guard_of : Sums → Noted → Option Guard
guard_of sums noted =
    if nat_lt sums.rows (2 * sums.refused) then Some guard.MostRefused
    else (if nat_lt 0 sums.changes && not noted.shows_lot then Some guard.NoWholeLot
    else (if noted.falls then Some guard.TimesFall
    else (if noted.lasts.short then Some guard.CutShort
    else (if nat_lt 0 sums.changes then None else Some guard.Nothing))))
