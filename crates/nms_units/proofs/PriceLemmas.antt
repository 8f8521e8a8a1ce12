-- A price's text is read as that price.
use Rattle.std.proofs.Common.{◌≡◌, ℕ, ◌+◌, ◌-◌, ◌*◌, ◌/◌, ◌%◌, ◌^◌, ◌<◌, ◌≤◌, Bool, true, false, ◌==◌}
use Rattle.std.proofs.Common.{List, [], ◌∷◌, ◌++◌, length, take, drop, get_or}
use Rattle.std.proofs.Common.{Some, None, Ok, Err, refl, sym, ap, ◌∙◌, arith, lit<, lit≤, if◌then◌else◌}
use Rattle.std.specs.Prelude.{option_map}
use Rattle.std.proofs.lemmas.Bool.{and_parts}
use Rattle.std.proofs.lemmas.Bool.Decides.{nat_tests}
use Rattle.std.proofs.lemmas.Grind.{common_steps}
use Rattle.std.proofs.lemmas.List.{take-append-drop, drop_all, drop_more}
use Rattle.std.specs.Char.{is_ascii_digit, digit_value}
use Rattle.std.specs.Fmt.{decimal}
use Rattle.std.specs.List.{list_all}
use Rattle.std.specs.Str.Parse.{digits_value}
use Rattle.nms_units.proofs.DecimalLemmas.{by_point-split, digits_decimal, last_digits, number_in-decimal, number_in-last_digits}
use Rattle.nms_units.specs.Digits.{is_digits}
use Rattle.nms_units.specs.declared.TheConstants.{MOST_PRICE}
use Rattle.nms_units.specs.declared.unit_fault.UnitFault.TheVariants as fault
use Rattle.nms_units.specs.Price.{dollars, decimals, dollars_and_decimals, price_number, price_reading, price_text, above_zero, both}

-- whole dollars are read as they are printed
dollars-decimal : (n : ℕ) → n < 10 ^ 7 → dollars (decimal n) ≡ Some (n * 10000)
dollars-decimal n h = ap (option_map (λ v. v * 10000)) (number_in-decimal 7 n (lit< tt) h (omega arith))

-- four decimals are read as they are printed
decimals-last_digits : (n : ℕ) → decimals (last_digits 4 n) ≡ Some (n % 10 ^ 4)
decimals-last_digits n = ap (option_map (λ v. v * 1)) (number_in-last_digits 4 4 n (lit< tt) (lit≤ tt)) ∙ ap Some (omega arith)

-- what a price prints is read as that price
pub price_reading-price_text : (n : ℕ) → 1 ≤ n → n ≤ MOST_PRICE → price_reading (price_text n) ≡ Ok n
price_reading-price_text n low high =
    let whole : List ℕ = decimal (n / 10000) in
    let behind : List ℕ = last_digits 4 n in
    let number : price_number (whole ++ 46 ∷ behind) ≡ Some n =
    by_point-split dollars_and_decimals whole behind (dollars (whole ++ 46 ∷ behind)) (digits_decimal (n / 10000) (omega arith))
    ∙ (λ j. both (dollars-decimal (n / 10000) (omega arith) j) (decimals-last_digits n j))
    ∙ ap Some (omega arith) in
    let positive : (n == 0) ≡ false = grind (arith, nat_tests) in
    ap above_zero number ∙ ap (λ b. if b then Err fault.ZeroPrice else Ok n) positive

-- the last three characters of a text
last_three : (text : List ℕ) (i j k : ℕ) → length text ≡ i + 3 → j ≡ i + 1 → k ≡ i + 2
    → drop i text ≡ get_or text i 0 ∷ get_or text j 0 ∷ get_or text k 0 ∷ []
last_three text i j k long second third =
    drop_more text i 0 (omega arith)
    ∙ ap (λ rest. get_or text i 0 ∷ rest) (ap (λ n. drop n text) (sym second) ∙ drop_more text j 0 (omega arith)
    ∙ ap (λ rest. get_or text j 0 ∷ rest) (ap (λ n. drop n text) (omega arith) ∙ drop_more text k 0 (omega arith)
    ∙ ap (λ rest. get_or text k 0 ∷ rest) (drop_all (k + 1) text (omega arith))))

dollars_digits : (text : List ℕ) (whole : ℕ) → dollars text ≡ Some whole → list_all is_ascii_digit text ≡ true
dollars_digits text whole is = (and_parts _ _ (form (is_digits 7 text) (digits_value 10 text) is)).1
  where
    form : (digits : Bool) (n : ℕ) → option_map (λ v. v * 10000) (if digits then Some n else None) ≡ Some whole → digits ≡ true
    form true n is = refl
    form false n is = cc

value_of : (c d : ℕ) → is_ascii_digit c ≡ true → d ≡ c - 48 → d ≡ digit_value c
value_of c d h e = grind (arith, common_steps)

two_decimals : (c d a b : ℕ) → is_ascii_digit c ≡ true → is_ascii_digit d ≡ true → a ≡ digit_value c → b ≡ digit_value d
    → decimals (c ∷ d ∷ []) ≡ Some ((a * 10 + b) * 100)
two_decimals c d a b h k e f = rw (h, k) (ap Some (omega (arith, e, f)))

-- digits, a point and two digits are a price in cents
pub price_number-cents : (text : List ℕ) (i j k whole a b : ℕ) → length text ≡ i + 3 → j ≡ i + 1 → k ≡ i + 2 → get_or text i 0 ≡ 46
    → dollars (take i text) ≡ Some whole → is_ascii_digit (get_or text j 0) ≡ true → is_ascii_digit (get_or text k 0) ≡ true
    → a ≡ get_or text j 0 - 48 → b ≡ get_or text k 0 - 48 → price_number text ≡ Some (whole + (a * 10 + b) * 100)
price_number-cents text i j k whole a b long second third point number tens ones ten one =
    let behind : List ℕ = get_or text j 0 ∷ get_or text k 0 ∷ [] in
    let split : text ≡ take i text ++ 46 ∷ behind = sym (take-append-drop i text)
    ∙ ap (λ rest. take i text ++ rest) (last_three text i j k long second third ∙ ap (λ c. c ∷ behind) point) in
    ap price_number split
    ∙ by_point-split dollars_and_decimals (take i text) behind _ (dollars_digits (take i text) whole number)
    ∙ (λ n. both (number n)
    (two_decimals (get_or text j 0) (get_or text k 0) a b tens ones (value_of _ a tens ten) (value_of _ b ones one) n))
