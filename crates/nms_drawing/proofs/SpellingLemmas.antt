-- Digits of a number to the base 32, one at a time.
use Rattle.std.proofs.Common.{◌≡◌, ◌+◌, ◌-◌, ◌/◌, ◌%◌, ◌<◌, ◌≤◌, ℕ, suc, List, [], ◌∷◌, ◌++◌, ap, sym, refl, ◌∙◌, arith}
use Rattle.std.proofs.lemmas.Bool.{cond_above, cond_below}
use Rattle.std.proofs.lemmas.List.{append_assoc, append-nil}
use Rattle.nms_drawing.specs.Spelling.{digits_within, glyph}

pub last_digit : (n number : ℕ) → number < 32 → digits_within (suc n) number ≡ glyph number ∷ []
unfolding digits_within
last_digit n number small = sym (cond_below number 32 (glyph number ∷ []) _ small)

pub next_digit : (n number : ℕ) → 32 ≤ number → digits_within (suc n) number ≡ glyph (number % 32 + 32) ∷ digits_within n (number / 32)
unfolding digits_within
next_digit n number large = sym (cond_above number 32 _ _ _ large refl)

no_digit : (number : ℕ) → digits_within 0 number ≡ []
unfolding digits_within
no_digit number = refl

-- the turns of a loop that appends digits: the last digit, a digit after which others follow, and the end of the turns
pub last_turn : (out whole : List ℕ) (turn left : ℕ) → turn < 13 → left < 32 → out ++ digits_within (13 - turn) left ≡ whole
    → out ++ glyph left ∷ [] ≡ whole
last_turn out whole turn left below small is =
    let turns : 13 - turn ≡ suc (12 - turn) = omega (arith, below) in
    ap (λ (ds : List ℕ). out ++ ds) (sym (ap (λ (n : ℕ). digits_within n left) turns ∙ last_digit (12 - turn) left small)) ∙ is

pub next_turn : (out whole : List ℕ) (turn left : ℕ) → turn < 13 → 32 ≤ left → out ++ digits_within (13 - turn) left ≡ whole
    → (out ++ glyph (left % 32 + 32) ∷ []) ++ digits_within (13 - (turn + 1)) (left / 32) ≡ whole
next_turn out whole turn left below large is =
    let turns : 13 - turn ≡ suc (13 - (turn + 1)) = omega (arith, below) in
    append_assoc out (glyph (left % 32 + 32) ∷ []) (digits_within (13 - (turn + 1)) (left / 32))
    ∙ ap (λ (ds : List ℕ). out ++ ds) (sym (ap (λ (n : ℕ). digits_within n left) turns ∙ next_digit (13 - (turn + 1)) left large)) ∙ is

pub no_turn : (out whole : List ℕ) (turn left : ℕ) → 13 ≤ turn → out ++ digits_within (13 - turn) left ≡ whole → out ≡ whole
no_turn out whole turn left all is =
    let turns : 13 - turn ≡ 0 = omega (arith, all) in
    sym (append-nil out) ∙ ap (λ (ds : List ℕ). out ++ ds) (sym (ap (λ (n : ℕ). digits_within n left) turns ∙ no_digit left)) ∙ is
