-- Numbers are read as they are printed: in decimal digits, and on both sides of a point.
use Rattle.std.proofs.Common.{◌≡◌, ℕ, zero, suc, ◌+◌, ◌*◌, ◌/◌, ◌%◌, ◌^◌, ◌<◌, ◌≤◌, true, false, cond, not, ◌&&◌, ◌==◌, nat_lt, nat_le}
use Rattle.std.proofs.Common.{List, [], ◌∷◌, ◌++◌, length, take, drop, Option, Some, None, lt-ltb, refl, ap, ◌∙◌, arith, lit<}
use Rattle.std.proofs.Common.{if◌then◌else◌}
use Rattle.std.proofs.Math.Arith.{mod-mul}
use Rattle.std.proofs.Math.Nat.{one-le-pow, pow-succ'}
use Rattle.std.proofs.Math.Seq.{take-append_seam, drop-append-add}
use Rattle.std.proofs.lemmas.Bool.{and_parts, and_from}
use Rattle.std.proofs.lemmas.Bool.Decides.{nat_tests}
use Rattle.std.proofs.lemmas.Fmt.{decimal_is_IsNumeral_wide, length-decimal-le_wide}
use Rattle.std.proofs.lemmas.Grind.{common_steps}
use Rattle.std.proofs.lemmas.List.{length-append}
use Rattle.std.proofs.lemmas.Str.Parse.{digit_from_value}
use Rattle.std.specs.Char.{is_ascii_digit, digit_value}
use Rattle.std.specs.Fmt.{decimal}
use Rattle.std.specs.List.{list_all, position_or_len}
use Rattle.std.specs.Option.{option_map_or}
use Rattle.std.specs.Str.Parse.{AllDigits, digits_value, digits_value_after}
use Rattle.nms_units.specs.Digits.{is_digits, number_in, point_in, by_point}
use Rattle.nms_units.specs.Price.{digit_at}

-- a character with a decimal value is a digit
is_ascii_digit-from_value : (c : ℕ) → digit_value c < 10 → is_ascii_digit c ≡ true
is_ascii_digit-from_value c h = let range = digit_from_value c h in grind (arith, nat_tests)

digits_pass : (ds : List ℕ) → AllDigits 10 ds → list_all is_ascii_digit ds ≡ true
digits_pass [] h = refl
digits_pass (c ∷ cs) h = and_from _ _ (is_ascii_digit-from_value c h.0) (digits_pass cs h.1)

-- a number prints digits
pub digits_decimal : (n : ℕ) → n < 10 ^ 64 → list_all is_ascii_digit (decimal n) ≡ true
digits_decimal n h = digits_pass (decimal n) (decimal_is_IsNumeral_wide n h).0.1

some_and_few : (n most : ℕ) → 0 < n → n ≤ most → (nat_lt 0 n && nat_le n most) ≡ true
some_and_few n most some few = grind (arith, nat_tests)

-- digits of a known value, neither none nor too many, write that value
number_of_digits : (most : ℕ) (text : List ℕ) (n : ℕ) → 0 < length text → length text ≤ most → list_all is_ascii_digit text ≡ true
    → digits_value 10 text ≡ n → number_in most text ≡ Some n
number_of_digits most text n some few digits value =
    let form : is_digits most text ≡ true = and_from _ _ (some_and_few (length text) most some few) digits in
    ap (λ b. if b then Some (digits_value 10 text) else None) form ∙ ap Some value

-- a number is read as it is printed
pub number_in-decimal : (most n : ℕ) → 0 < most → n < 10 ^ most → n < 10 ^ 64 → number_in most (decimal n) ≡ Some n
number_in-decimal most n some small wide =
    let numeral = decimal_is_IsNumeral_wide n wide in
    number_of_digits most (decimal n) n numeral.0.0 (length-decimal-le_wide most n some small wide) (digits_decimal n wide) numeral.1

-- a digit is no point
no_point : (c : ℕ) → is_ascii_digit c ≡ true → (c == 46) ≡ false
no_point c h = grind (arith, nat_tests)

-- the first point is after the digits before it
point_behind : (whole behind : List ℕ) → list_all is_ascii_digit whole ≡ true
    → position_or_len (λ c. c == 46) (whole ++ 46 ∷ behind) ≡ length whole
point_behind [] behind h = refl
point_behind (c ∷ cs) behind h =
    let parts = and_parts (is_ascii_digit c) (list_all is_ascii_digit cs) h in
    let rest : position_or_len (λ c. c == 46) (cs ++ 46 ∷ behind) ≡ length cs = point_behind cs behind parts.1 in
    ap (λ b. cond (not b) (1 + position_or_len (λ c. c == 46) (cs ++ 46 ∷ behind)) 0) (no_point c parts.0) ∙ omega (arith, rest)

-- digits, a point and more are read on both sides of that point
pub by_point-split : (read : List ℕ → List ℕ → Option ℕ) (whole behind : List ℕ) (none : Option ℕ) → list_all is_ascii_digit whole ≡ true
    → by_point read (whole ++ 46 ∷ behind) none ≡ read whole behind
by_point-split read whole behind none h =
    let text : List ℕ = whole ++ 46 ∷ behind in
    let at : position_or_len (λ c. c == 46) text ≡ length whole = point_behind whole behind h in
    let within : length whole < length text = omega (arith, length-append whole (46 ∷ behind)) in
    let point : point_in text ≡ Some (length whole) =
    (λ j. cond (nat_lt (at j) (length text)) (Some (at j)) None) ∙ ap (λ b. cond b (Some (length whole)) None) (lt-ltb _ _ within) in
    ap (λ p. option_map_or (λ place. read (take place text) (drop (place + 1) text)) p none) point
    ∙ (λ j. read (take-append_seam whole (46 ∷ behind) j) (drop-append-add whole (46 ∷ behind) 1 j))

-- the last `count` digits of a number, as text
abbrev pub last_digits : ℕ → ℕ → List ℕ
last_digits zero n = []
last_digits (suc count) n = digit_at (10 ^ count) n ∷ last_digits count n

pub length-last_digits : (count n : ℕ) → length (last_digits count n) ≡ count
length-last_digits zero n = refl
length-last_digits (suc count) n = ap suc (length-last_digits count n)

-- the digit that a value below 10 prints has that value
digit_value-digit : (d : ℕ) → d < 10 → (is_ascii_digit (48 + d) ≡ true) × (digit_value (48 + d) ≡ d)
digit_value-digit d h = (grind (arith, nat_tests), grind (arith, common_steps))

below_10 : (n : ℕ) → n % 10 < 10
below_10 n = omega arith

pub last_digits_pass : (count n : ℕ) → list_all is_ascii_digit (last_digits count n) ≡ true
last_digits_pass zero n = refl
last_digits_pass (suc count) n = and_from _ _ (digit_value-digit (n / 10 ^ count % 10) (below_10 _)).0 (last_digits_pass count n)

-- after the number `front`, the last digits of n write what is left of n
value_after : (count front n : ℕ) → digits_value_after 10 front (last_digits count n) ≡ front * 10 ^ count + n % 10 ^ count
value_after zero front n = omega arith
value_after (suc count) front n =
    let digit : ℕ = n / 10 ^ count % 10 in
    let scale : 10 ^ suc count ≡ 10 * 10 ^ count = pow-succ' 10 count in
    let rest : n % (10 * 10 ^ count) ≡ digit * 10 ^ count + n % 10 ^ count =
    mod-mul n {m = 10} {c = 10 ^ count} (lit< tt) (one-le-pow count 10 (lit< tt)) in
    ap (λ d. digits_value_after 10 (front * 10 + d) (last_digits count n)) (digit_value-digit digit (below_10 _)).1
    ∙ value_after count (front * 10 + digit) n
    ∙ rw (scale, rest) (omega arith)

-- the last digits of a number are read as what is left of it
pub number_in-last_digits : (most count n : ℕ) → 0 < count → count ≤ most → number_in most (last_digits count n) ≡ Some (n % 10 ^ count)
number_in-last_digits most count n some few =
    let long : length (last_digits count n) ≡ count = length-last_digits count n in
    number_of_digits most (last_digits count n) (n % 10 ^ count) (omega (arith, long)) (omega (arith, long)) (last_digits_pass count n)
    (value_after count 0 n ∙ omega arith)
