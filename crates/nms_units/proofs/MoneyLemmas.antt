-- The text of money is read as that money.
use Rattle.std.proofs.Common.{◌≡◌, ℕ, suc, ℤ, pos, negsuc, neg_ℤ, ◌<ℤ◌, ◌*◌, ◌/◌, ◌%◌, ◌^◌, ◌<◌, true, false, ◌==◌, List, [], ◌∷◌, ◌++◌}
use Rattle.std.proofs.Common.{length, Some, None, Ok, ap, sym, ◌∙◌, arith, lit<, lit≤, append_assoc, if◌then◌else◌}
use Rattle.std.specs.Prelude.{option_map}
use Rattle.std.proofs.lemmas.Bool.{and_parts}
use Rattle.std.proofs.lemmas.Bool.Decides.{nat_tests}
use Rattle.std.proofs.lemmas.Fmt.{decimal_is_IsNumeral_wide}
use Rattle.std.proofs.lemmas.Int.{ints}
use Rattle.std.specs.Char.{is_ascii_digit}
use Rattle.std.specs.Fmt.{decimal}
use Rattle.std.specs.List.{list_all}
use Rattle.nms_units.proofs.DecimalLemmas.{by_point-split, digits_decimal, last_digits, number_in-decimal, number_in-last_digits}
use Rattle.nms_units.specs.Money.{whole_dollars, nine_decimals, nanodollars, amount_number, money_number, money_reading, or_bad_money}
use Rattle.nms_units.specs.Money.{three_digits, amount_text, money_text}
use Rattle.nms_units.specs.Price.{both}

-- whole dollars are read as they are printed
whole_dollars-decimal : (n : ℕ) → n < 10 ^ 20 → whole_dollars (decimal n) ≡ Some (n * 1000000000)
whole_dollars-decimal n h = ap (option_map (λ v. v * 1000000000)) (number_in-decimal 20 n (lit< tt) h (omega arith))

-- nine decimals are read as they are printed
nine_decimals-last_digits : (n : ℕ) → nine_decimals (last_digits 9 n) ≡ Some (n % 10 ^ 9)
nine_decimals-last_digits n = number_in-last_digits 9 9 n (lit< tt) (lit≤ tt)

-- three times three digits are the last nine
last_nine : (n : ℕ) → three_digits (n / 1000000) ++ (three_digits (n / 1000) ++ three_digits n) ≡ last_digits 9 n
last_nine n =
    let e8 : n / 1000000 / 100 ≡ n / 10 ^ 8 = omega arith in
    let e7 : n / 1000000 / 10 ≡ n / 10 ^ 7 = omega arith in
    let e6 : n / 1000000 / 1 ≡ n / 10 ^ 6 = omega arith in
    let e5 : n / 1000 / 100 ≡ n / 10 ^ 5 = omega arith in
    let e4 : n / 1000 / 10 ≡ n / 10 ^ 4 = omega arith in
    let e3 : n / 1000 / 1 ≡ n / 10 ^ 3 = omega arith in
    cc

-- an amount as text: the dollars, a point and the last nine digits
amount_text-split : (n : ℕ) → amount_text n ≡ decimal (n / 1000000000) ++ 46 ∷ last_digits 9 n
amount_text-split n =
    append_assoc (decimal (n / 1000000000) ++ 46 ∷ three_digits (n / 1000000)) (three_digits (n / 1000)) (three_digits n)
    ∙ append_assoc (decimal (n / 1000000000)) (46 ∷ three_digits (n / 1000000)) (three_digits (n / 1000) ++ three_digits n)
    ∙ ap (λ behind. decimal (n / 1000000000) ++ 46 ∷ behind) (last_nine n)

-- an amount is read as it is printed
amount_number-amount_text : (n : ℕ) → n < 10 ^ 29 → amount_number (amount_text n) ≡ Some n
amount_number-amount_text n small =
    let whole : List ℕ = decimal (n / 1000000000) in
    ap amount_number (amount_text-split n)
    ∙ by_point-split nanodollars whole (last_digits 9 n) None (digits_decimal (n / 1000000000) (omega arith))
    ∙ (λ j. both (whole_dollars-decimal (n / 1000000000) (omega arith) j) (nine_decimals-last_digits n j))
    ∙ ap Some (omega arith)

-- a digit is no minus
no_minus : (c : ℕ) → is_ascii_digit c ≡ true → (c == 45) ≡ false
no_minus c h = grind (arith, nat_tests)

-- what begins with a digit is read as an amount
unsigned_amount : (whole behind : List ℕ) → 0 < length whole → list_all is_ascii_digit whole ≡ true
    → money_number (whole ++ behind) ≡ option_map (λ n. pos n) (amount_number (whole ++ behind))
unsigned_amount [] behind some digits = absurd (omega arith)
unsigned_amount (c ∷ cs) behind some digits =
    ap (λ b. if b then option_map (λ n. neg_ℤ (pos n)) (amount_number (cs ++ behind)) else option_map (λ n. pos n)
    (amount_number (c ∷ (cs ++ behind)))) (no_minus c (and_parts (is_ascii_digit c) (list_all is_ascii_digit cs) digits).0)

-- what money prints is read as that money
pub money_reading-money_text : (money : ℤ) → neg_ℤ (pos (10 ^ 29)) <ℤ money → money <ℤ pos (10 ^ 29)
    → money_reading (money_text money) ≡ Ok money
money_reading-money_text (pos n) low high =
    let small : n < 10 ^ 29 = omega (arith, ints, high) in
    let wide : n / 1000000000 < 10 ^ 64 = omega arith in
    ap (λ text. or_bad_money (money_number text)) (amount_text-split n)
    ∙ ap or_bad_money (unsigned_amount (decimal (n / 1000000000)) (46 ∷ last_digits 9 n)
    (decimal_is_IsNumeral_wide (n / 1000000000) wide).0.0 (digits_decimal (n / 1000000000) wide))
    ∙ ap (λ text. or_bad_money (option_map (λ k. pos k) (amount_number text))) (sym (amount_text-split n))
    ∙ ap (λ o. or_bad_money (option_map (λ k. pos k) o)) (amount_number-amount_text n small)
money_reading-money_text (negsuc n) low high =
    let small : suc n < 10 ^ 29 = omega (arith, ints, low) in
    ap (λ o. or_bad_money (option_map (λ k. neg_ℤ (pos k)) o)) (amount_number-amount_text (suc n) small)
