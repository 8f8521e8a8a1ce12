-- The time of day that a text of a vendor's file says, as 15 digits HHMMSSnnnnnnnnn. This product's own rule.
use Rattle.std.specs.Prelude.{ℕ, ◌+◌, ◌*◌, ◌-◌, ◌/◌, ◌%◌, ◌^◌, ◌==◌, ◌&&◌, ◌||◌, Bool, false, List, length, take, drop, get_or}
use Rattle.std.specs.Prelude.{[], ◌∷◌, nat_eq, nat_le, nat_lt, not, Option, Some, None, option_and_then, option_map, if◌then◌else◌}
use Rattle.nms_units.specs.Digits.{by_point, number_in}
use Rattle.nms_units.specs.Price.{both}
use Rattle.nms_lines.specs.Sides.{is_empty}
use Rattle.nms_import.specs.declared.meanings.TimeForm.{TimeForm}
use Rattle.nms_import.specs.declared.meanings.TimeForm.TheVariants as form
use Rattle.nms_import.specs.declared.meanings.Zone.{Zone}
use Rattle.nms_import.specs.declared.meanings.Zone.TheVariants as zone
use Rattle.nms_import.specs.Forms.{zone_in}

-- the number, if it passes
abbrev pub only_if : (ℕ → Bool) → Option ℕ → Option ℕ
only_if passes None = None
only_if passes (Some n) = if passes n then Some n else None

-- one to nine digits after the second, as nanoseconds
abbrev pub fraction : List ℕ → Option ℕ
fraction text = option_map (λ n. n * 10 ^ (9 - length text)) (number_in 9 text)

-- the same, or nothing
abbrev pub nanoseconds : List ℕ → Option ℕ
nanoseconds text = if is_empty text then Some 0 else fraction text

-- ---- "HHMMSSn"

-- six digits, before nine others
abbrev pub seconds : List ℕ → Option ℕ
seconds text = option_map (λ n. n * 1000000000) (number_in 6 text)

-- HHMMSS and the digits after it as one number of 15 digits
abbrev pub clock_number : List ℕ → Option ℕ
clock_number text =
    if nat_lt (length text) 6 then None
    else both (seconds (take 6 text)) (nanoseconds (drop 6 text))

-- hours below 24, minutes and seconds below 60
abbrev pub is_clock : ℕ → Bool
is_clock t = nat_lt (t / 10000000000000) 24 && nat_lt (t / 100000000000 % 100) 60 && nat_lt (t / 1000000000 % 100) 60

-- ---- the other forms say nanoseconds after a midnight

-- HHMMSS of a second of the day, before nine other digits
abbrev pub clock_digits : ℕ → ℕ
clock_digits second = second / 3600 * 10000000000000 + second / 60 % 60 * 100000000000 + second % 60 * 1000000000

-- the time of day, moved on by the seconds of a zone
abbrev pub clock_at : (zone nanos : ℕ) → ℕ
clock_at zone nanos = clock_digits ((nanos / 1000000000 + zone) % 86400) + nanos % 1000000000

-- "seconds": one to five digits, and at most a point with one to nine digits; less than a day
abbrev pub whole_seconds : List ℕ → Option ℕ
whole_seconds text = option_map (λ n. n * 1000000000) (number_in 5 text)

abbrev pub seconds_and_fraction : List ℕ → List ℕ → Option ℕ
seconds_and_fraction whole behind = both (whole_seconds whole) (fraction behind)

abbrev pub is_in_day : ℕ → Bool
is_in_day nanos = nat_lt nanos 86400000000000

abbrev pub seconds_number : List ℕ → Option ℕ
seconds_number text = only_if is_in_day (by_point seconds_and_fraction text (whole_seconds text))

-- "HH:MM:SS": at most a point with one to nine digits after it
abbrev pub has_colons : List ℕ → Bool
has_colons text = nat_le 8 (length text) && get_or text 2 0 == 58 && get_or text 5 0 == 58

abbrev pub two_at : ℕ → List ℕ → Option ℕ
two_at place text = number_in 2 (take 2 (drop place text))

-- hours, minutes and seconds as nanoseconds
abbrev pub hours_at : List ℕ → Option ℕ
hours_at text = option_map (λ n. n * 3600000000000) (only_if (λ n. nat_lt n 24) (two_at 0 text))

abbrev pub minutes_at : List ℕ → Option ℕ
minutes_at text = option_map (λ n. n * 60000000000) (only_if (λ n. nat_lt n 60) (two_at 3 text))

abbrev pub seconds_at : List ℕ → Option ℕ
seconds_at text = option_map (λ n. n * 1000000000) (only_if (λ n. nat_lt n 60) (two_at 6 text))

abbrev pub point_and_fraction : List ℕ → Option ℕ
point_and_fraction text = if is_empty text then Some 0 else (if get_or text 0 0 == 46 then fraction (drop 1 text) else None)

abbrev pub second_at : List ℕ → Option ℕ
second_at text = both (both (hours_at text) (minutes_at text)) (seconds_at text)

abbrev pub colons_number : List ℕ → Option ℕ
colons_number text = if has_colons text then both (second_at text) (point_and_fraction (drop 8 text)) else None

-- "iso": ten bytes of a date; T or a blank; a time with colons; at most a Z, or an offset from UTC as +HH:MM or +HHMM
abbrev pub has_date : List ℕ → Bool
has_date text = nat_le 11 (length text) && (get_or text 10 0 == 84 || get_or text 10 0 == 32)

-- whether a byte is the first of the last ones
abbrev pub is_from_end : (bytes c : ℕ) → List ℕ → Bool
is_from_end bytes c text = nat_le bytes (length text) && get_or text (length text - bytes) 0 == c

-- a plus or a minus
abbrev pub has_sign : (bytes : ℕ) → List ℕ → Bool
has_sign bytes text = is_from_end bytes 43 text || is_from_end bytes 45 text

-- how many bytes at the end say the zone
abbrev pub zone_length : List ℕ → ℕ
zone_length text = if is_from_end 1 90 text then 1 else (if has_sign 6 text then 6 else (if has_sign 5 text then 5 else 0))

-- an offset without the colon in it
abbrev pub without_colon : List ℕ → List ℕ
without_colon text =
    if nat_eq (length text) 6 && get_or text 3 0 == 58
    then get_or text 0 0 ∷ get_or text 1 0 ∷ get_or text 2 0 ∷ get_or text 4 0 ∷ get_or text 5 0 ∷ [] else text

-- the nanoseconds from a local time on to UTC, over midnight
abbrev pub to_utc : List ℕ → Option ℕ
to_utc zone =
    if nat_le (length zone) 1 then Some 0 else option_map (λ seconds. (86400 - seconds) * 1000000000) (zone_in (without_colon zone))

-- in UTC, where a time without a zone is taken to be
abbrev pub utc_number : List ℕ → Option ℕ
utc_number text =
    both (colons_number (take (length text - zone_length text) text)) (to_utc (drop (length text - zone_length text) text))

-- ---- New York: summer time is from 2:00 of the second Sunday in March to 2:00 of the first in November (15 U.S.C. 260a), since 2007

-- how many days after a 1 March a day is, which is counted from that of 1968: four years from there have 1,461 days, the last of
-- them 29 February
abbrev pub since_march : (day : ℕ) → ℕ
since_march day = day - (4 * day + 3) / 1461 * 1461 / 4

-- whether the last Sunday, or this one, is at least this number of days after a 1 March; 1 March 1968 was a Friday
abbrev pub is_past : (days day : ℕ) → Bool
is_past days day = nat_le (days + (day + 5) % 7) (since_march day)

-- from the second Sunday in March on, and before the first in November: 7 to 13, and 245 to 251 days after 1 March
abbrev pub is_between_on : (day : ℕ) → Bool
is_between_on day = is_past 7 day && not (is_past 245 day)

-- the same at a second since 1970, which began 671 days later
abbrev pub is_between : (second : ℕ) → Bool
is_between second = is_between_on (second / 86400 + 671)

-- with days that begin at 2:00 of the winter, and with days that begin at 2:00 of the summer
abbrev pub is_summer : (second : ℕ) → Bool
is_summer second = is_between (second - 25200) && is_between (second - 21600)

-- the seconds by which the clock there is moved on from UTC, over midnight; known of the years 2007 to 2099
abbrev pub new_york_zone : (second : ℕ) → Option ℕ
new_york_zone second =
    if nat_lt second 1167609600 || nat_le 4102444800 second then None
    else Some (if is_summer second then 72000 else 68400)

abbrev pub in_new_york : (nanos : ℕ) → Option ℕ
in_new_york nanos = option_map (λ zone. clock_at zone nanos) (new_york_zone (nanos / 1000000000))

-- the time of day of nanoseconds since 1970, in a zone; not known if the mapping says none
abbrev pub zoned : Zone → (nanos : ℕ) → Option ℕ
zoned zone.Unsaid nanos = None
zoned (zone.Moved seconds) nanos = Some (clock_at seconds nanos)
zoned zone.NewYork nanos = in_new_york nanos

-- the time of day of nanoseconds after a midnight of the clock of the market, or of the zone that is said
abbrev pub local : Zone → (nanos : ℕ) → Option ℕ
local zone.Unsaid nanos = Some (clock_at 0 nanos)
local (zone.Moved seconds) nanos = zoned (zone.Moved seconds) nanos
local zone.NewYork nanos = zoned zone.NewYork nanos

-- ---- the date of "iso", as YYYY-MM-DD of the years 2007 to 2099

-- the days from 1 March 1968 to a date
abbrev pub days_of : (year month day : ℕ) → ℕ
days_of year month day = (year * 12 + month - 23619) / 12 * 1461 / 4 + (153 * ((month + 9) % 12) + 2) / 5 + day - 1

-- a number of at most this number of digits, if it is within two others
abbrev pub number_within : (digits least most : ℕ) → List ℕ → Option ℕ
number_within digits least most text = only_if (λ n. nat_le least n && nat_le n most) (number_in digits text)

-- the midnight of UTC that begins a date, in nanoseconds since 1970
abbrev pub midnight_of : Option ℕ → Option ℕ → Option ℕ → Option ℕ
midnight_of (Some year) (Some month) (Some day) = Some ((days_of year month day - 671) * 86400000000000)
midnight_of _ _ _ = None

abbrev pub midnight_number : List ℕ → Option ℕ
midnight_number text =
    if get_or text 4 0 == 45 && get_or text 7 0 == 45
    then midnight_of (number_within 4 2007 2099 (take 4 text)) (number_within 2 1 12 (take 2 (drop 5 text)))
    (number_within 2 1 31 (take 2 (drop 8 text)))
    else None

-- an offset that is behind UTC; any other is taken to UTC over midnight, so that a day is to be taken off
abbrev pub is_part_of_day : Option ℕ → Bool
is_part_of_day None = false
is_part_of_day (Some nanos) = nat_lt nanos 86400000000000

abbrev pub is_behind : List ℕ → Bool
is_behind zone = get_or zone 0 0 == 45 && is_part_of_day (to_utc zone)

abbrev pub over_by : (zone : List ℕ) → ℕ
over_by zone = if nat_le (length zone) 1 || is_behind zone then 0 else 86400000000000

abbrev pub over_midnight : List ℕ → ℕ
over_midnight text = over_by (drop (length text - zone_length text) text)

-- nanoseconds since 1970
abbrev pub instant_from : (midnight : Option ℕ) → List ℕ → Option ℕ
instant_from midnight text = option_map (λ nanos. nanos - over_midnight text) (both midnight (utc_number text))

abbrev pub instant_number : List ℕ → Option ℕ
instant_number text = if has_date text then instant_from (midnight_number text) (drop 11 text) else None

-- whether a time after a date says how far it is from UTC
abbrev pub says_zone : List ℕ → Bool
says_zone text = nat_lt 11 (length text) && not (nat_eq (zone_length (drop 11 text)) 0)

-- a date and a time in a zone; if the mapping says none, the time has to be one of the clock of the market
abbrev pub iso_zoned : Zone → List ℕ → Option ℕ
iso_zoned zone.Unsaid text = if says_zone text then None else option_map (clock_at 0) (instant_number text)
iso_zoned (zone.Moved seconds) text = option_map (clock_at seconds) (instant_number text)
iso_zoned zone.NewYork text = option_and_then in_new_york (instant_number text)

-- ---- all forms

-- "unix_us" is one to 16 digits: microseconds since 1970
abbrev pub microseconds : List ℕ → Option ℕ
microseconds text = option_map (λ n. n * 1000) (number_in 16 text)

-- "unix_ms" is one to 13 digits: milliseconds since 1970
abbrev pub milliseconds : List ℕ → Option ℕ
milliseconds text = option_map (λ n. n * 1000000) (number_in 13 text)

-- "unix_ns" is one to 19 digits: nanoseconds since 1970
abbrev pub clock_of : TimeForm → Zone → List ℕ → Option ℕ
clock_of form.Clock zone text = only_if is_clock (clock_number text)
clock_of form.Seconds zone text = option_and_then (local zone) (seconds_number text)
clock_of form.UnixNanoseconds zone text = option_and_then (zoned zone) (number_in 19 text)
clock_of form.UnixMicroseconds zone text = option_and_then (zoned zone) (microseconds text)
clock_of form.UnixMilliseconds zone text = option_and_then (zoned zone) (milliseconds text)
clock_of form.Colons zone text = option_and_then (local zone) (colons_number text)
clock_of form.Iso zone text = iso_zoned zone text

-- ---- the day that a text says, in its zone: the days that end at a midnight there, counted from one that depends on the zone only

abbrev pub day_at : (zone nanos : ℕ) → ℕ
day_at zone nanos = (nanos / 1000000000 + zone) / 86400

abbrev pub day_in : Zone → (nanos : ℕ) → Option ℕ
day_in zone.Unsaid nanos = Some (day_at 0 nanos)
day_in (zone.Moved seconds) nanos = Some (day_at seconds nanos)
day_in zone.NewYork nanos = option_map (λ zone. day_at zone nanos) (new_york_zone (nanos / 1000000000))

-- only a date says one, as do the times since 1970
abbrev pub day_of : TimeForm → Zone → List ℕ → Option ℕ
day_of form.Clock zone text = None
day_of form.Seconds zone text = None
day_of form.Colons zone text = None
day_of form.UnixNanoseconds zone text = option_and_then (day_in zone) (number_in 19 text)
day_of form.UnixMicroseconds zone text = option_and_then (day_in zone) (microseconds text)
day_of form.UnixMilliseconds zone text = option_and_then (day_in zone) (milliseconds text)
day_of form.Iso zone text = option_and_then (day_in zone) (instant_number text)
