-- Numbers read digit by digit.
use Rattle.std.proofs.Common.{ℕ, Bool, true, false, ◌≡◌, ◌+◌, ◌*◌, ◌<◌, ◌≤◌, ◌&&◌, List, [], ◌∷◌, ◌++◌, length, take, drop, get_or, nat_lt}
use Rattle.std.proofs.Common.{nat_le, Option, Some, None, if◌then◌else◌, arith, refl, sym, ap, ◌∙◌}
use Rattle.std.proofs.lemmas.Bool.Decides.{nat_tests}
use Rattle.std.proofs.lemmas.Int.Digits.{digits_value_more}
use Rattle.std.proofs.lemmas.List.{take-append-drop, take_all, drop_all, drop_more, length-take, length-drop}
use Rattle.std.proofs.lemmas.List.Folds.{list_all-append}
use Rattle.std.specs.Char.{is_ascii_digit, digit_value}
use Rattle.std.specs.List.{list_all}
use Rattle.std.specs.Str.Parse.{digits_value}
use Rattle.nms_units.specs.Digits.{number_in}

-- if the length is right, only the digits decide
number_by_digits : (most : ℕ) (text : List ℕ) → 0 < length text → length text ≤ most
    → number_in most text ≡ (if list_all is_ascii_digit text then Some (digits_value 10 text) else None)
number_by_digits most text some within =
    let nonempty : nat_lt 0 (length text) ≡ true = grind (arith, nat_tests) in
    let short : nat_le (length text) most ≡ true = grind (arith, nat_tests) in
    rw (nonempty, short)

-- the digits of a number and one more
abbrev pub tens_and_ones : Option ℕ → Option ℕ → Option ℕ
tens_and_ones None n = None
tens_and_ones (Some m) None = None
tens_and_ones (Some m) (Some n) = Some (m * 10 + n)

both_read : (a b : Bool) (m n whole : ℕ) → whole ≡ m * 10 + n
    → (if a && b then Some whole else None) ≡ tens_and_ones (if a then Some m else None) (if b then Some n else None)
both_read true true m n whole e = ap (λ k. Some k) e
both_read true false m n whole e = refl
both_read false b m n whole e = refl

value_of_one : (c : ℕ) → digits_value 10 (c ∷ []) ≡ digit_value c
value_of_one c = omega arith

value_split : (most : ℕ) (text : List ℕ) → length text ≡ most + 1
    → digits_value 10 text ≡ digits_value 10 (take most text) * 10 + digits_value 10 (drop most text)
value_split most text long =
    let whole : take (most + 1) text ≡ text = take_all (most + 1) text (omega arith) in
    let none_left : drop (most + 1) text ≡ [] = drop_all (most + 1) text (omega arith) in
    let last : drop most text ≡ get_or text most 0 ∷ [] = drop_more text most 0 (omega arith)
    ∙ ap (λ rest. get_or text most 0 ∷ rest) none_left in
    ap (digits_value 10) (sym whole) ∙ digits_value_more 10 text most (omega arith)
    ∙ rw (last, value_of_one (get_or text most 0))

in_parts : (most : ℕ) (text : List ℕ) → 0 < most → length text ≡ most + 1
    → number_in (most + 1) text ≡ tens_and_ones (number_in most (take most text)) (number_in 1 (drop most text))
in_parts most text some long =
    let front : length (take most text) ≡ most = simp length-take (omega arith) in
    let last : length (drop most text) ≡ 1 = simp length-drop (omega arith) in
    let split : take most text ++ drop most text ≡ text = take-append-drop most text in
    let digits : list_all is_ascii_digit text ≡ (list_all is_ascii_digit (take most text) && list_all is_ascii_digit (drop most text)) =
    ap (list_all is_ascii_digit) (sym split) ∙ list_all-append is_ascii_digit (take most text) (drop most text) in
    let value : digits_value 10 text ≡ digits_value 10 (take most text) * 10 + digits_value 10 (drop most text) =
    value_split most text long in
    number_by_digits (most + 1) text (omega arith) (omega arith)
    ∙ rw (
      digits,
      number_by_digits most (take most text) (omega arith) (omega arith),
      number_by_digits 1 (drop most text) (omega arith) (omega arith),
    )
    (both_read (list_all is_ascii_digit (take most text)) (list_all is_ascii_digit (drop most text)) _ _ _ value)

-- the last of the digits, read apart from those before it
pub number_in-last : (most : ℕ) (text front last : List ℕ) (a b : Option ℕ) → 0 < most → length text ≡ most + 1 → front ≡ take most text
    → last ≡ drop most text
    → a ≡ number_in most front → b ≡ number_in 1 last → number_in (most + 1) text ≡ tens_and_ones a b
number_in-last most text front last a b some long in_front at_end first second =
    in_parts most text some long ∙ rw (first, second, in_front, at_end)
