-- The version at the time of a row of a vendor's file. This product's own rule.
use Rattle.std.specs.Prelude.{ℕ, ◌+◌, ◌*◌, List, length, take, slice_index}
use Rattle.std.specs.Prelude.{Option, None, nat_lt, if◌then◌else◌, ◌==◌, ◌&&◌}
use Rattle.std.specs.List.{position_or_len}
use Rattle.nms_units.specs.Digits.{number_in}
use Rattle.nms_quote.specs.declared.change.Change.{Change}
use Rattle.nms_quote.specs.declared.change.Change.TheVariants as change
use Rattle.nms_import.specs.declared.mapping.Order.{Order}
use Rattle.nms_import.specs.declared.mapping.Order.TheVariants as order

-- the place of something in the order of a file: its time of day, HHMMSSnnnnnnnnn; in a file by symbol, the place of the symbol
-- and then the time
abbrev pub key_in : Order → (sym time : ℕ) → ℕ
key_in order.Given sym time = time
key_in order.Symbol sym time = sym * 1000000000000000 + time
key_in order.Free sym time = time

-- the place of a change's symbol. A withdrawal is of all symbols, and a file by symbol has none
abbrev pub place_of : Change → ℕ
place_of (change.Quote part sym state bid offer) = sym
place_of (change.State part sym state) = sym
place_of (change.Withdraw part) = 0
place_of (change.Lot sym lot) = sym

-- the time that a text begins with: 15 digits and a line feed
abbrev pub time_in : List ℕ → Option ℕ
time_in text = if nat_lt 15 (length text) && slice_index text 15 == 10 then number_in 15 (take 15 text) else None

-- the version at a key: how many changes come before the first that is later, or all if none is
abbrev pub version_by : (keys : List ℕ) → ℕ → ℕ
version_by keys key = position_or_len (λ k. nat_lt key k) keys
