-- Names as numbers: a number other than 0 is one name's.
use Rattle.std.proofs.Common.{◌≡◌, ℕ, ◌+◌, ◌*◌, ◌<◌, Bool, true, false, ◌&&◌, nat_le, List, [], ◌∷◌, length, get_or, slice_get}
use Rattle.std.proofs.Common.{if◌then◌else◌}
use Rattle.std.proofs.Common.{Option, Some, None, option_map, refl, sym, ap, ◌∙◌, arith, ◌++◌}
use Rattle.std.proofs.lemmas.Bool.{and_parts, and_from}
use Rattle.std.proofs.lemmas.Bool.Decides.{nat_tests}
use Rattle.std.proofs.lemmas.List.{map-append}
use Rattle.std.proofs.lemmas.Option.{same_Some, none-some, slice_get-get_or, slice_get-map}
use Rattle.std.specs.List.{list_all}
use Rattle.nms_quote.specs.Names.{number_after, is_digit, values_of, word_of, words_of}
use Rattle.nms_quote.specs.Roster.{Name}

-- the number whose digits are bytes, the last digit first
abbrev number_from_last : List ℕ → ℕ
number_from_last [] = 0
number_from_last (c ∷ cs) = number_from_last cs * 256 + c

-- bytes from the last to the first, before others
abbrev reversed : List ℕ → List ℕ → List ℕ
reversed [] last = last
reversed (c ∷ cs) last = reversed cs (c ∷ last)

reversed-reversed : (text last : List ℕ) → reversed (reversed text last) [] ≡ reversed last text
reversed-reversed [] last = refl
reversed-reversed (c ∷ cs) last = reversed-reversed cs (c ∷ last)

number_after-reversed : (text last : List ℕ) → number_after (number_from_last last) text ≡ number_from_last (reversed text last)
number_after-reversed [] last = refl
number_after-reversed (c ∷ cs) last = number_after-reversed cs (c ∷ last)

digits_reversed : (text last : List ℕ) → list_all is_digit text ≡ true → list_all is_digit last ≡ true
    → list_all is_digit (reversed text last) ≡ true
digits_reversed [] last h k = k
digits_reversed (c ∷ cs) last h k =
    let parts = and_parts (is_digit c) (list_all is_digit cs) h in
    digits_reversed cs (c ∷ last) parts.1 (and_from _ _ parts.0 k)

digit_range : (c : ℕ) → is_digit c ≡ true → (0 < c) × (c < 256)
digit_range c h = (grind (arith, nat_tests), grind (arith, nat_tests))

same_digits : (m n c d : ℕ) → m * 256 + c ≡ n * 256 + d → c < 256 → d < 256 → (m ≡ n) × (c ≡ d)
same_digits m n c d e below under = (omega arith, omega arith)

from_number : (xs ys : List ℕ) → list_all is_digit xs ≡ true → list_all is_digit ys ≡ true → number_from_last xs ≡ number_from_last ys
    → xs ≡ ys
from_number [] [] h k e = refl
from_number [] (d ∷ ds) h k e = absurd (omega (arith, (digit_range d (and_parts _ _ k).0).0))
from_number (c ∷ cs) [] h k e = absurd (omega (arith, (digit_range c (and_parts _ _ h).0).0))
from_number (c ∷ cs) (d ∷ ds) h k e =
    let hs = and_parts (is_digit c) (list_all is_digit cs) h in
    let ks = and_parts (is_digit d) (list_all is_digit ds) k in
    let same = same_digits (number_from_last cs) (number_from_last ds) c d e (digit_range c hs.0).1 (digit_range d ks.0).1 in
    λ j. same.1 j ∷ from_number cs ds hs.1 ks.1 same.0 j

-- what a number other than 0 says of the text that has it
spelled : (text : Name) (word : ℕ) → word_of text ≡ word → 0 < word → (list_all is_digit text ≡ true) × (number_after 0 text ≡ word)
spelled text word is some = by (nat_le (length text) 8) (list_all is_digit text) is
  where
    by : (short digits : Bool) → (if short && digits then number_after 0 text else 0) ≡ word
        → (digits ≡ true) × (number_after 0 text ≡ word)
    by true true e = (refl, e)
    by true false e = absurd (omega arith)
    by false digits e = absurd (omega arith)

-- a number other than 0 is one text's
pub word_of-injective : (xs ys : Name) (word : ℕ) → word_of xs ≡ word → word_of ys ≡ word → 0 < word → xs ≡ ys
word_of-injective xs ys word mine other some =
    let x = spelled xs word mine some in
    let y = spelled ys word other some in
    let same : reversed xs [] ≡ reversed ys [] = from_number _ _ (digits_reversed xs [] x.0 refl) (digits_reversed ys [] y.0 refl)
    (sym (number_after-reversed xs []) ∙ x.1 ∙ sym y.1 ∙ number_after-reversed ys []) in
    sym (reversed-reversed xs []) ∙ ap (λ last. reversed last []) same ∙ reversed-reversed ys []

-- the name is at the place of its word
pub name_at-word : {Z : Type 0} (table : List (Name × Z)) (words : List ℕ) → words ≡ words_of table → (place d : ℕ) (name : Name) (word : ℕ)
    → place < length words → get_or words place d ≡ word → word_of name ≡ word → 0 < word
    → option_map (λ entry. entry.0) (slice_get table place) ≡ Some name
name_at-word {Z = Z} table words are place d name word there at is some = by (slice_get table place) refl
  where
    here : option_map (λ entry. word_of entry.0) (slice_get table place) ≡ Some word
    here = sym (slice_get-map (λ entry. word_of entry.0) table place) ∙ ap (λ ws. slice_get ws place) (sym are)
        ∙ slice_get-get_or words place d there ∙ ap Some at

    by : (entry : Option (Name × Z)) → slice_get table place ≡ entry → option_map (λ entry. entry.0) (slice_get table place) ≡ Some name
    by None e = absurd (none-some word (ap (option_map (λ entry. word_of entry.0)) (sym e) ∙ here))
    by (Some (text, value)) e =
        let word_is : word_of text ≡ word = same_Some _ _ (ap (option_map (λ entry. word_of entry.0)) (sym e) ∙ here) in
        ap (option_map (λ entry. entry.0)) e ∙ ap Some (word_of-injective text name word word_is is some)

-- a new name's word goes last
pub words_of-added : {Z : Type 0} (table after : List (Name × Z)) (words : List ℕ) → words ≡ words_of table → (name : Name) (value : Z)
    (word : ℕ) → word ≡ word_of name → after ≡ table ++ (name, value) ∷ [] → words ++ word ∷ [] ≡ words_of after
words_of-added table after words are name value word is added =
    (λ j. are j ++ is j ∷ []) ∙ sym (ap words_of added ∙ map-append (λ entry. word_of entry.0) table ((name, value) ∷ []))

-- the values of a table with one entry more
pub values_of-added : {Z : Type 0} (table after : List (Name × Z)) (values : List Z) → values ≡ values_of table → (name : Name) (value : Z)
    → after ≡ table ++ (name, value) ∷ [] → values ++ value ∷ [] ≡ values_of after
values_of-added table after values are name value added =
    (λ j. are j ++ value ∷ []) ∙ sym (ap values_of added ∙ map-append (λ entry. entry.1) table ((name, value) ∷ []))
