-- A time of day as 15 digits, HHMMSSnnnnnnnnn: hours, minutes, seconds, nanoseconds. This product's own rule.
use Rattle.std.specs.Prelude.{ℕ, ◌+◌, ◌*◌, ◌-◌, ◌/◌, ◌%◌, ◌^◌, ◌==◌, ◌&&◌, Bool, List, ◌++◌, length, take, drop, nat_lt, Option, Some, None}
use Rattle.std.specs.Prelude.{option_map, if◌then◌else◌}
use Rattle.nms_units.specs.Digits.{number_in}
use Rattle.nms_units.specs.Money.{three_digits}
use Rattle.nms_units.specs.Price.{both}

-- hours below 24, minutes and seconds below 60
abbrev pub is_clock : ℕ → Bool
is_clock t = nat_lt (t / 10000000000000) 24 && nat_lt (t / 100000000000 % 100) 60 && nat_lt (t / 1000000000 % 100) 60

-- six digits HHMMSS, before nine others
abbrev pub seconds : List ℕ → Option ℕ
seconds text = option_map (λ n. n * 1000000000) (number_in 6 text)

-- digits after the second, up to nine, as nanoseconds
abbrev pub nanoseconds : List ℕ → Option ℕ
nanoseconds text = if length text == 0 then Some 0 else option_map (λ n. n * 10 ^ (9 - length text)) (number_in 9 text)

-- HHMMSS and the digits after it as one number of 15 digits
abbrev pub clock_number : List ℕ → Option ℕ
clock_number text = if nat_lt (length text) 6 then None else both (seconds (take 6 text)) (nanoseconds (drop 6 text))

abbrev pub if_clock : Option ℕ → Option ℕ
if_clock None = None
if_clock (Some t) = if is_clock t then Some t else None

-- the time of day that a text is
abbrev pub time_reading : List ℕ → Option ℕ
time_reading text = if_clock (clock_number text)

-- a time as text: its 15 digits
abbrev pub time_text : ℕ → List ℕ
time_text t =
    three_digits (t / 1000000000000) ++ three_digits (t / 1000000000) ++ three_digits (t / 1000000) ++ three_digits (t / 1000)
    ++ three_digits t

-- the nanoseconds of a time since midnight
abbrev pub since_midnight : ℕ → ℕ
since_midnight t =
    t / 10000000000000 * 3600000000000 + t / 100000000000 % 100 * 60000000000 + t / 1000000000 % 100 * 1000000000 + t % 1000000000

-- the time n nanoseconds after midnight
abbrev pub clock_at : ℕ → ℕ
clock_at n =
    n / 3600000000000 * 10000000000000 + n / 60000000000 % 60 * 100000000000 + n / 1000000000 % 60 * 1000000000 + n % 1000000000

-- the time n nanoseconds before a time; midnight at the earliest
abbrev pub earlier_by : ℕ → ℕ → ℕ
earlier_by nanoseconds t = clock_at (since_midnight t - nanoseconds)

-- the time n nanoseconds after a time; the last nanosecond of the day at the latest
abbrev pub later_by : ℕ → ℕ → ℕ
later_by nanoseconds t =
    clock_at (if nat_lt (since_midnight t + nanoseconds) 86400000000000 then since_midnight t + nanoseconds else 86399999999999)
