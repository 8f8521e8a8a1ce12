-- When an execution took place, and the versions that were in force then. This product's own rule.
use Rattle.std.specs.Prelude.{ℕ, ◌≤◌, ◌+◌, ◌==◌, All, Bool, false, List, drop, length}
use Rattle.std.specs.Prelude.{nat_lt, slice_get, slice_index, IfSome, Option, Some, None, Result, Ok, Err}
use Rattle.std.specs.Prelude.{if◌then◌else◌, not, unwrap_or}
use Rattle.nms_units.specs.Digits.{number_in}
use Rattle.nms_times.specs.Clock.{earlier_by, later_by, time_reading}
use Rattle.nms_times.specs.Times.{version_at, version_before}
use Rattle.nms_times.specs.declared.rising.Rising.{Rising}
use Rattle.nms_trades.specs.declared.clock.Clock.{Clock}
use Rattle.nms_trades.specs.declared.clock.When.{When}
use Rattle.nms_trades.specs.declared.stretch.Stretch.{Stretch}
use Rattle.nms_trades.specs.Stretch.{is_own, whole_day}
use Rattle.nms_trades.specs.declared.trade_fault.TradeFault.{TradeFault}
use Rattle.nms_trades.specs.declared.trade_fault.TradeFault.TheVariants as fault

-- the version in force at a time: it has the changes that are not later, or, if those of the time itself are left out, that
-- are earlier. Before the first change it is version 0
abbrev pub version_by : (before : Bool) → Rising → ℕ → ℕ
version_by before rising t =
    if before then rising.before + version_before rising.times.now t else rising.before + version_at rising.times.now t

-- an execution at a time: its version, those of its window, and that of one second before; and whether another shard has its symbol then
abbrev pub timed : Clock → Stretch → Rising → ℕ → When
timed clock stretch rising t = record {
  version = version_by clock.before rising t;
  first = version_by clock.before rising (earlier_by clock.window t);
  last = version_by clock.before rising (later_by clock.window t);
  second_before = version_by clock.before rising (earlier_by 1000000000 t);
  time = Some t;
  other = not (is_own clock.before stretch t);
}

-- an execution on a version, whose time is not known: only that version
abbrev pub untimed : ℕ → When
untimed n = record { version = n; first = n; last = n; second_before = n; time = None; other = false }

-- the times of a symbol's changes, if the file of symbols has it
abbrev pub among : Clock → Stretch → ℕ → Option (Option Rising) → Result When TradeFault
among clock stretch t None = Err fault.NoChanges
among clock stretch t (Some None) = Err fault.NoChanges
among clock stretch t (Some (Some rising)) = Ok (timed clock stretch rising t)

-- the part of the day that the changes have of a symbol; the whole day if none is known
abbrev pub stretch_in : List Stretch → (sym : ℕ) → Stretch
stretch_in stretches sym = unwrap_or (slice_get stretches sym) whole_day

-- a time, if the changes have times
abbrev pub at_time : Clock → (sym : ℕ) → Option ℕ → Result When TradeFault
at_time clock sym None = Err fault.BadVersion
at_time clock sym (Some t) =
    if clock.has_times then among clock (stretch_in clock.stretches.items sym) t (slice_get clock.rising.items sym) else Err fault.NoTimes

-- a version, if the file has n changes
abbrev pub version_below : ℕ → Option ℕ → Result When TradeFault
version_below changes None = Err fault.BadVersion
version_below changes (Some n) = if nat_lt changes n then Err fault.Beyond else Ok (untimed n)

-- what a text says: `@` and a time, or a version
abbrev pub when_in : Clock → (sym : ℕ) → List ℕ → Result When TradeFault
when_in clock sym text =
    if slice_index text 0 == 64 then at_time clock sym (time_reading (drop 1 text)) else version_below clock.changes (number_in 9 text)

-- the times of a clock are of no more changes than there are
abbrev pub AreOfChanges : ℕ → List (Option Rising) → Type 0
AreOfChanges changes all = All (λ found. IfSome found (λ rising. rising.before + length rising.times.now ≤ changes)) all

-- a version lies within a window
abbrev pub IsWithin : (first version last : ℕ) → Type 0
IsWithin first version last = (first ≤ version) × (version ≤ last)
