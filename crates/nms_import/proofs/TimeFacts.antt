-- A time of day as its two parts.
use Rattle.std.proofs.Common.{ℕ, ◌≡◌, ◌≤◌, ◌+◌, ◌-◌, true, false, List, length, take, drop, arith, nat_lt, Option, Some, refl, sym, ap, ◌∙◌}
use Rattle.std.proofs.lemmas.List.{length-drop, take_all}
use Rattle.std.proofs.lemmas.Bool.Decides.{nat_tests}
use Rattle.nms_units.specs.Price.{both}
use Rattle.nms_import.specs.Times.{clock_number, colons_number, has_date, instant_from, instant_number}
use Rattle.nms_import.specs.Times.{midnight_number, nanoseconds, seconds, to_utc, utc_number, zone_length}

-- as many bytes as are left are all that are left
pub rest_of : (text : List ℕ) (done : ℕ) → take (length text - done) (drop done text) ≡ drop done text
rest_of text done = take_all (length text - done) (drop done text) (omega (arith, length-drop done text))

-- a time from its two parts
pub clock_of : (text : List ℕ) (second after : ℕ) → 6 ≤ length text → Some second ≡ seconds (take 6 text)
    → Some after ≡ nanoseconds (drop 6 text) → Some (second + after) ≡ clock_number text
clock_of text second after long first rest =
    let is_long : nat_lt (length text) 6 ≡ false = grind (arith, nat_tests) in
    rw (is_long, sym first, sym rest) refl

-- a time and its zone follow a date, from whose midnight they count
pub instant_of : (text : List ℕ) (midnight : Option ℕ) → true ≡ has_date text → midnight ≡ midnight_number text
    → instant_from midnight (take (length text - 11) (drop 11 text)) ≡ instant_number text
instant_of text midnight dated is = rw (rest_of text 11, sym dated, is) refl

-- a time of UTC from a local one and what moves it on
pub utc_of : (text : List ℕ) (zone local : ℕ) (shift : Option ℕ) → zone ≡ zone_length text
    → Some local ≡ colons_number (take (length text - zone) text)
    → shift ≡ to_utc (take (length text - (length text - zone)) (drop (length text - zone) text))
    → both (Some local) shift ≡ utc_number text
utc_of text zone local shift is_zone first after =
    ap (λ (time : Option ℕ). both time shift) first
    ∙ ap (both (colons_number (take (length text - zone) text))) (after ∙ ap to_utc (rest_of text (length text - zone)))
    ∙ ap (λ (z : ℕ). both (colons_number (take (length text - z) text)) (to_utc (drop (length text - z) text))) is_zone
