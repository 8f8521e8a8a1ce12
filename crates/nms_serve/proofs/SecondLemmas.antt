-- The seconds of a text of digits.
use Rattle.std.proofs.Common.{◌≡◌, ◌∙◌, ◌<◌, ◌≤◌, ◌^◌, ◌&&◌, ℕ, Bool, true, false, [], ◌∷◌, Some, None, length, refl, sym, ap, subst}
use Rattle.std.proofs.Common.{arith, nat_le, if◌then◌else◌}
use lib.Dec.{leb}
use borrow.Author.Tests.{le-leb, leb-true}
use Rattle.std.proofs.lemmas.Bool.{and_parts}
use Rattle.std.proofs.lemmas.Str.Parse.{IsDigitsTest, numerals_by_value, without_leading_plus_none}
use Rattle.std.specs.Char.{is_ascii_digit}
use Rattle.std.specs.List.{list_all}
use Rattle.std.specs.Str.Parse.{AllDigits, IsNumeral, digits_value, without_leading_plus}
use Rattle.clap.specs.Words.{Text}
use Rattle.nms_serve.specs.Values.{day, in_a_day, seconds_of}

abbrev are_digits : Text → Bool
are_digits = list_all is_ascii_digit

tells : IsDigitsTest (λ text. are_digits text ≡ true)
tells = record {
  empty = refl;
  parts = λ c cs all. let both = and_parts (is_ascii_digit c) (are_digits cs) all in
      let ends = and_parts (leb 48 c) (leb c 57) both.0 in
      ((leb-true 48 c ends.0, leb-true c 57 ends.1), both.1);
  more = λ c cs within rest i. (le-leb 48 c within.0 i && le-leb c 57 within.1 i) && rest i;
}

digits : (text : Text) → are_digits text ≡ true → AllDigits 10 text
digits = (numerals_by_value (λ text. are_digits text ≡ true) tells).to

-- digits have no sign before them
bare : (text : Text) → are_digits text ≡ true → without_leading_plus text ≡ text
bare [] all = refl
bare (c ∷ cs) all =
    let first = (and_parts (is_ascii_digit c) (are_digits cs) all).0 in
    without_leading_plus_none (c ∷ cs) (λ plus. let wrong : is_ascii_digit 43 ≡ true = ap is_ascii_digit (sym plus) ∙ first in cc)

-- digits, one or more: their number decides
digits_alone : (text : Text) → are_digits text ≡ true → 0 < length text → seconds_of text ≡ in_a_day (digits_value 10 text)
digits_alone [] all some = absurd (omega arith)
digits_alone (c ∷ cs) all some = ap (λ (b : Bool). if b then in_a_day (digits_value 10 (c ∷ cs)) else None) all

past_a_day : (n : ℕ) → (n ≤ day → ⊥) → in_a_day n ≡ None
past_a_day n past = go (nat_le 1 n) (nat_le n day) refl
  where
    go : (some few : Bool) → nat_le n day ≡ few → (if some && few then Some n else None) ≡ None
    go true true told = absurd (past (leb-true n day told))
    go true false told = refl
    go false few told = refl

-- what `parse` asks of a text
abbrev pub IsRead : Text → Type 0
IsRead text = IsNumeral 10 (without_leading_plus text) × (digits_value 10 (without_leading_plus text) < 2 ^ 32)

-- what `parse` read
pub read_some : (text : Text) (n : ℕ) → are_digits text ≡ true → IsRead text → n ≡ digits_value 10 (without_leading_plus text)
    → seconds_of text ≡ in_a_day n
read_some text n all reads value =
    let same = bare text all in
    let some = subst (λ (t : Text). 0 < length t) same reads.0.0 in
    let is : n ≡ digits_value 10 text = value ∙ ap (digits_value 10) same in
    digits_alone text all some ∙ ap in_a_day (sym is)

-- digits that `parse` refuses
pub read_none : (text : Text) → are_digits text ≡ true → (IsRead text → ⊥) → seconds_of text ≡ None
read_none [] all refuses = refl
read_none (c ∷ cs) all refuses =
    let text = c ∷ cs in
    let same = bare text all in
    digits_alone text all (omega arith) ∙ past_a_day (digits_value 10 text) (λ few. refuses (
      subst (λ (t : Text). IsNumeral 10 t) (sym same) (omega arith, digits text all),
      subst (λ (t : Text). digits_value 10 t < 2 ^ 32) (sym same) (omega arith),
    ))
