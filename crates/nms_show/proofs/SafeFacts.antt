-- Printable text and safe text, joined.
use Rattle.std.proofs.Common.{ℕ, zero, suc, ℤ, pos, negsuc, ◌≡◌, ◌+◌, ◌/◌, ◌%◌, ◌<◌, ◌≤◌, ◌==◌, ◌&&◌, Bool, true, false, cond}
use Rattle.std.proofs.Common.{List, [], ◌∷◌, ◌++◌}
use Rattle.std.proofs.Common.{refl, sym, ap, subst, ◌∙◌, take, append_assoc, arith}
use Rattle.std.specs.Prelude.{flat_map, nat_lt, ◌||◌, if◌then◌else◌}
use Rattle.std.specs.Char.{digit_char, encode_utf8}
use Rattle.std.specs.Fmt.{decimal, digit_glyph, digits, digits_onto}
use Rattle.std.specs.Int.{is_in_range}
use Rattle.std.specs.List.{list_all}
use Rattle.std.proofs.lemmas.Bool.Decides.{nat_tests}
use Rattle.std.proofs.lemmas.Bool.{le-ltb, lt-ltb}
use Rattle.std.proofs.lemmas.List.{append-nil}
use Rattle.std.proofs.lemmas.List.Concat.{flat_map-append}
use Rattle.std.proofs.lemmas.Str.{encode_ascii}
use Rattle.nms_units.specs.Money.{amount_text, money_text, three_digits}
use Rattle.nms_units.specs.Price.{digit_at, price_text}
use Rattle.nms_show.specs.Safe.{IsPrintable, no_text, character, IsSafe, nothing, printed, line_end, bold, red, plain, is_letter, is_shown}
use Rattle.nms_show.specs.Json.{json_byte, json_string}

-- ---- printable text

pub printable_append : {a : List ℕ} (b : List ℕ) → IsPrintable a → IsPrintable b → IsPrintable (a ++ b)
printable_append b no_text second = second
printable_append b (character c rest shown more) second =
    subst IsPrintable (sym (append_assoc (encode_utf8 c) rest b)) (character c (rest ++ b) shown (printable_append b more second))

pub printable_one : (c : ℕ) → is_shown c ≡ true → IsPrintable (encode_utf8 c)
printable_one c shown = subst IsPrintable (append-nil (encode_utf8 c)) (character c [] shown no_text)

either_true : (a b : Bool) → a ≡ true → (a || b) ≡ true
either_true true b is = refl
either_true false b is = absurd (cc)

other_true : (a b : Bool) → b ≡ true → (a || b) ≡ true
other_true true b is = refl
other_true false b is = is

pub letter_shown : (c : ℕ) → is_letter c ≡ true → is_shown c ≡ true
letter_shown c is = other_true (is_in_range 32 126 c) (is_letter c) is

pub both_true : (a b : Bool) → (a && b) ≡ true → (a ≡ true) × (b ≡ true)
both_true true b is = (refl, is)
both_true false b is = absurd (cc)

small : (c : ℕ) → is_in_range 32 126 c ≡ true → c < 128
small c is = grind (arith, nat_tests)

-- a byte of printable ASCII before printable text
pub printable_cons : (c : ℕ) (rest : List ℕ) → is_in_range 32 126 c ≡ true → IsPrintable rest → IsPrintable (c ∷ rest)
printable_cons c rest here more =
    subst (λ (t : List ℕ). IsPrintable (t ++ rest)) (encode_ascii c (small c here))
    (character c rest (either_true (is_in_range 32 126 c) (is_letter c) here) more)

-- text of only printable ASCII, by a test that computes
pub printable_ascii : (text : List ℕ) → list_all (is_in_range 32 126) text ≡ true → IsPrintable text
printable_ascii [] is = no_text
printable_ascii (c ∷ text) is =
    let parts = both_true (is_in_range 32 126 c) (list_all (is_in_range 32 126) text) is in
    printable_cons c text parts.0 (printable_ascii text parts.1)

pub in_range : (c : ℕ) → 32 ≤ c → c ≤ 126 → is_in_range 32 126 c ≡ true
in_range c low high = grind (arith, nat_tests)

-- ---- numbers

digit_in : (d : ℕ) → d < 10 → is_in_range 32 126 (48 + d) ≡ true
digit_in d small = in_range (48 + d) (omega arith) (omega arith)

glyph_in : (n : ℕ) → is_in_range 32 126 (digit_glyph false (n % 10)) ≡ true
glyph_in n = let small : n % 10 < 10 = omega arith in rw (lt-ltb (n % 10) 10 small) (digit_in (n % 10) small)

printable_onto : (k n : ℕ) (after : List ℕ) → IsPrintable after → IsPrintable (digits_onto k 10 false n after)
printable_onto zero n after given = given
printable_onto (suc k) n after given =
    let more : IsPrintable (digit_glyph false (n % 10) ∷ after) = printable_cons (digit_glyph false (n % 10)) after (glyph_in n) given in
    either (n / 10 == 0) _ _ more (printable_onto k (n / 10) _ more)
  where
    either : (b : Bool) (xs ys : List ℕ) → IsPrintable xs → IsPrintable ys → IsPrintable (cond b xs ys)
    either true xs ys p q = p
    either false xs ys p q = q

pub printable_decimal : (n : ℕ) → IsPrintable (decimal n)
unfolding digits
printable_decimal n = printable_onto 64 n [] no_text

digit_at_in : (unit n : ℕ) → is_in_range 32 126 (digit_at unit n) ≡ true
digit_at_in unit n = digit_in (n / unit % 10) (omega arith)

pub printable_price : (n : ℕ) → IsPrintable (price_text n)
printable_price n =
    printable_append _ (printable_decimal (n / 10000))
    (printable_cons 46 _ refl (printable_cons (digit_at 1000 n) _ (digit_at_in 1000 n)
    (printable_cons (digit_at 100 n) _ (digit_at_in 100 n)
    (printable_cons (digit_at 10 n) _ (digit_at_in 10 n) (printable_cons (digit_at 1 n) [] (digit_at_in 1 n) no_text)))))

three : (n : ℕ) (rest : List ℕ) → IsPrintable rest → IsPrintable (three_digits n ++ rest)
three n rest more =
    printable_cons (digit_at 100 n) _ (digit_at_in 100 n)
    (printable_cons (digit_at 10 n) _ (digit_at_in 10 n) (printable_cons (digit_at 1 n) rest (digit_at_in 1 n) more))

threes : (n : ℕ) → IsPrintable (three_digits n)
threes n = three n [] no_text

printable_amount : (n : ℕ) → IsPrintable (amount_text n)
printable_amount n =
    printable_append (three_digits n) (printable_append (three_digits (n / 1000))
    (printable_append (46 ∷ three_digits (n / 1000000)) (printable_decimal (n / 1000000000))
    (printable_cons 46 _ refl (threes (n / 1000000)))) (threes (n / 1000))) (threes n)

pub printable_money : (z : ℤ) → IsPrintable (money_text z)
printable_money (pos n) = printable_amount n
printable_money (negsuc n) = printable_cons 45 _ refl (printable_amount (suc n))

-- ---- safe text

pub safe_append : {a : List ℕ} (b : List ℕ) → IsSafe a → IsSafe b → IsSafe (a ++ b)
safe_append b nothing second = second
safe_append b (printed first rest text more) second =
    subst IsSafe (sym (append_assoc first rest b)) (printed first (rest ++ b) text (safe_append b more second))
safe_append b (line_end more) second = line_end (safe_append b more second)
safe_append b (bold more) second = bold (safe_append b more second)
safe_append b (red more) second = red (safe_append b more second)
safe_append b (plain more) second = plain (safe_append b more second)

pub safe_printable : (a : List ℕ) → IsPrintable a → IsSafe a
safe_printable a text = subst IsSafe (append-nil a) (printed a [] text nothing)

-- two texts of a kind joined, as functions of both, for what is written in turn
pub join_printable : (a b : List ℕ) → IsPrintable a → IsPrintable b → IsPrintable (a ++ b)
join_printable a b first second = printable_append b first second

pub join_safe : (a b : List ℕ) → IsSafe a → IsSafe b → IsSafe (a ++ b)
join_safe a b first second = safe_append b first second

-- one more byte of printable ASCII after a prefix of a text
pub printable_more : (n : ℕ) (text : List ℕ) (c : ℕ) → take (n + 1) text ≡ take n text ++ c ∷ [] → 32 ≤ c → c ≤ 126
    → IsPrintable (take n text) → IsPrintable (take (n + 1) text)
printable_more n text c split low high before =
    subst IsPrintable (sym split) (printable_append (c ∷ []) before (printable_cons c [] (in_range c low high) no_text))

-- ---- between quotation marks

glyph : (d : ℕ) → d < 16 → is_in_range 32 126 (digit_char d) ≡ true
glyph d small = grind (arith, nat_tests)

quoted_ascii : (c : ℕ) → is_in_range 32 126 c ≡ true → IsPrintable (json_byte c)
quoted_ascii c here =
    by_test (c == 34 || c == 92) (nat_lt c 32 || c == 127) (printable_cons 92 _ refl (printable_cons c [] here no_text))
    (printable_cons 92 _ refl (printable_cons 117 _ refl (printable_cons 48 _ refl (printable_cons 48 _ refl
    (printable_cons (digit_char (c / 16)) _ (glyph (c / 16) (omega (arith, small c here)))
    (printable_cons (digit_char (c % 16)) [] (glyph (c % 16) (omega arith)) no_text))))))
    (printable_cons c [] here no_text)
  where
    by_test : (one two : Bool) {x y z : List ℕ} → IsPrintable x → IsPrintable y → IsPrintable z
        → IsPrintable (if one then x else if two then y else z)
    by_test true two p q r = p
    by_test false true p q r = q
    by_test false false p q r = r

-- a byte beyond ASCII is written as it is
quoted_high : (b : ℕ) → 128 ≤ b → json_byte b ≡ b ∷ []
quoted_high b high = grind (arith, nat_tests)

pub letter_between : (c : ℕ) → is_letter c ≡ true → (128 ≤ c) × (c < 2048)
letter_between c is = grind (arith, nat_tests)

-- a letter takes two bytes, both beyond ASCII
letter_bytes : (c : ℕ) → 128 ≤ c → c < 2048 → encode_utf8 c ≡ (192 + c / 64) ∷ (128 + c % 64) ∷ []
unfolding encode_utf8
letter_bytes c low high = rw (le-ltb c 128 low, lt-ltb c 2048 high) refl

quoted_letter : (c : ℕ) → is_letter c ≡ true → flat_map json_byte (encode_utf8 c) ≡ encode_utf8 c
quoted_letter c is =
    let range = letter_between c is in
    let bytes = letter_bytes c range.0 range.1 in
    ap (flat_map json_byte) bytes
    ∙ ap (λ (t : List ℕ). t ++ flat_map json_byte ((128 + c % 64) ∷ [])) (quoted_high (192 + c / 64) (omega arith))
    ∙ ap (λ (t : List ℕ). (192 + c / 64) ∷ t ++ []) (quoted_high (128 + c % 64) (omega arith))
    ∙ sym bytes

quoted_shown : (c : ℕ) → is_shown c ≡ true → IsPrintable (flat_map json_byte (encode_utf8 c))
quoted_shown c shown = by_kind (is_in_range 32 126 c) refl
  where
    by_kind : (b : Bool) → is_in_range 32 126 c ≡ b → IsPrintable (flat_map json_byte (encode_utf8 c))
    by_kind true here =
        subst (λ (t : List ℕ). IsPrintable (flat_map json_byte t)) (sym (encode_ascii c (small c here)))
        (subst IsPrintable (sym (append-nil (json_byte c))) (quoted_ascii c here))
    by_kind false here =
        let letter : is_letter c ≡ true = subst (λ (b : Bool). (b || is_letter c) ≡ true) here shown in
        subst IsPrintable (sym (quoted_letter c letter)) (printable_one c shown)

pub printable_quoted : {text : List ℕ} → IsPrintable text → IsPrintable (flat_map json_byte text)
printable_quoted no_text = no_text
printable_quoted (character c rest shown more) =
    subst IsPrintable (sym (flat_map-append json_byte (encode_utf8 c) rest))
    (printable_append (flat_map json_byte rest) (quoted_shown c shown) (printable_quoted more))

-- a text of the program's own, or of a file, as a string of JSON
pub printable_string : {text : List ℕ} → IsPrintable text → IsPrintable (json_string text)
printable_string text = printable_cons 34 _ refl (printable_append (34 ∷ []) (printable_quoted text) (printable_cons 34 [] refl no_text))
