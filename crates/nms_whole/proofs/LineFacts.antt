-- What is passed on if only the good bytes of a line are held is what is passed on of the lines.
use Rattle.std.proofs.Common.{ℕ, ◌≡◌, ◌≢◌, ◌-◌, ◌++◌, ◌⊎◌, suc, Option, Some, None, inl, inr, Bool, true, false, cond, not, ◌==◌, ◌&&◌}
use Rattle.std.proofs.Common.{◌||◌, List, [], ◌∷◌, length, refl, ap, sym}
use Rattle.std.proofs.Common.{subst, ◌∙◌, arith, append_assoc, length-append}
use Rattle.std.specs.Prelude.{nat_le, slice_get}
use Rattle.std.proofs.lemmas.List.{append-nil}
use Rattle.std.proofs.lemmas.Bool.Decides.{nat_tests}
use Rattle.nms_whole.specs.Going.{at_end, at_feed, ends_in_return, given_after, spoils}
use Rattle.nms_whole.specs.Lines.{has_byte, is_fit, passed, returns_within, torn, whole_after, whole_lines}
use Rattle.nms_whole.specs.declared.TheConstants.{MOST_LINE}

-- ---- tests

or_assoc : (a b c : Bool) → (a || (b || c)) ≡ ((a || b) || c)
or_assoc true b c = refl
or_assoc false b c = refl

or_true : (a : Bool) → (a || true) ≡ true
or_true true = refl
or_true false = refl

none_of : (a b c : Bool) → (a || b || c) ≡ false → (a ≡ false) × (b ≡ false) × (c ≡ false)
none_of true b c h = absurd (cc)
none_of false true c h = absurd (cc)
none_of false false true h = absurd (cc)
none_of false false false h = (refl, refl, refl)

one_of : (a b c : Bool) → (a || b || c) ≡ true → (a ≡ true) ⊎ ((b ≡ true) ⊎ (c ≡ true))
one_of true b c h = inl refl
one_of false true c h = inr (inl refl)
one_of false false true h = inr (inr refl)
one_of false false false h = absurd (cc)

all_three : (a b c : Bool) → (a && not b && not c) ≡ true → (a ≡ true) × (b ≡ false) × (c ≡ false)
all_three true false false h = (refl, refl, refl)
all_three true false true h = absurd (cc)
all_three true true c h = absurd (cc)
all_three false b c h = absurd (cc)

first_fails : (a b c : Bool) → a ≡ false → (a && not b && not c) ≡ false
first_fails a b c h = rw h refl

second_fails : (a b c : Bool) → b ≡ true → (a && not b && not c) ≡ false
second_fails true b c h = rw h refl
second_fails false b c h = refl

third_fails : (a b c : Bool) → c ≡ true → (a && not b && not c) ≡ false
third_fails true true c h = refl
third_fails true false c h = rw h refl
third_fails false b c h = refl

-- ---- a line and one byte more

byte_among : (byte : ℕ) (xs ys : List ℕ) → has_byte byte (xs ++ ys) ≡ (has_byte byte xs || has_byte byte ys)
byte_among byte [] ys = refl
byte_among byte (x ∷ xs) ys = ap (λ (b : Bool). (x == byte) || b) (byte_among byte xs ys)
    ∙ or_assoc (x == byte) (has_byte byte xs) (has_byte byte ys)

returns_among : (xs : List ℕ) (y : ℕ) (ys : List ℕ) → returns_within (xs ++ y ∷ ys)
    ≡ (returns_within xs || (ends_in_return xs || returns_within (y ∷ ys)))
returns_among [] y ys = refl
returns_among (x ∷ []) y ys = refl
returns_among (x ∷ next ∷ xs) y ys = ap (λ (b : Bool). (x == 13) || b) (returns_among (next ∷ xs) y ys)
    ∙ or_assoc (x == 13) (returns_within (next ∷ xs)) (ends_in_return (next ∷ xs) || returns_within (y ∷ ys))

-- whether a byte that may be there is a carriage return
abbrev is_return : Option ℕ → Bool
is_return None = false
is_return (Some byte) = byte == 13

-- the last byte
pub last_return : (line : List ℕ) (last : Option ℕ) → last ≡ slice_get line (length line - 1) → ends_in_return line ≡ is_return last
last_return [] last is = rw is refl
last_return (byte ∷ []) last is = rw is refl
last_return (first ∷ next ∷ rest) last is =
    let place : length (first ∷ next ∷ rest) - 1 ≡ suc (length (next ∷ rest) - 1) = omega arith in
    last_return (next ∷ rest) last (is ∙ ap (λ (k : ℕ). slice_get (first ∷ next ∷ rest) k) place)

-- a line that fits goes on by a byte that does not spoil it
fits_more : (line : List ℕ) (byte : ℕ) → is_fit line ≡ true → spoils line byte ≡ false → is_fit (line ++ byte ∷ []) ≡ true
fits_more line byte fit good =
    let had = all_three (nat_le (length line) MOST_LINE) (has_byte 34 line) (returns_within line) fit in
    let next = none_of (byte == 34) (nat_le MOST_LINE (length line)) (ends_in_return line) good in
    let few : nat_le (length (line ++ byte ∷ [])) MOST_LINE ≡ true = grind (arith, nat_tests, length-append line (byte ∷ []), next.1) in
    let quotes : has_byte 34 (line ++ byte ∷ []) ≡ false = byte_among 34 line (byte ∷ []) ∙ (rw (had.1, next.0) refl) in
    let returns : returns_within (line ++ byte ∷ []) ≡ false = returns_among line byte [] ∙ (rw (had.2, next.2) refl) in
    rw (few, quotes, returns) refl

-- and a byte that spoils it makes no line that fits
spoilt : (line : List ℕ) (byte : ℕ) (more : List ℕ) → spoils line byte ≡ true → is_fit (line ++ byte ∷ more) ≡ false
spoilt line byte more bad = elim (one_of (byte == 34) (nat_le MOST_LINE (length line)) (ends_in_return line) bad) [
  | inl quote ↦
      let found : has_byte 34 (line ++ byte ∷ more) ≡ true =
      byte_among 34 line (byte ∷ more) ∙ ap (λ (b : Bool). has_byte 34 line || (b || has_byte 34 more)) quote
      ∙ or_true (has_byte 34 line) in
      second_fails (nat_le (length (line ++ byte ∷ more)) MOST_LINE) (has_byte 34 (line ++ byte ∷ more))
      (returns_within (line ++ byte ∷ more)) found
  | inr (inl long) ↦
      let over : nat_le (length (line ++ byte ∷ more)) MOST_LINE ≡ false = grind (arith, nat_tests, length-append line (byte ∷ more), long)
      in
      first_fails (nat_le (length (line ++ byte ∷ more)) MOST_LINE) (has_byte 34 (line ++ byte ∷ more))
      (returns_within (line ++ byte ∷ more)) over
  | inr (inr return) ↦
      let found : returns_within (line ++ byte ∷ more) ≡ true =
      returns_among line byte more ∙ ap (λ (b : Bool). returns_within line || (b || returns_within (byte ∷ more))) return
      ∙ or_true (returns_within line) in
      third_fails (nat_le (length (line ++ byte ∷ more)) MOST_LINE) (has_byte 34 (line ++ byte ∷ more))
      (returns_within (line ++ byte ∷ more)) found
]

-- ---- the line in hand

-- the bytes of the line that were begun are held, and it fits; or it fits in no way that it goes on
abbrev StandsFor : List ℕ → List ℕ → Bool → Type 0
StandsFor begun line false = (line ≡ begun) × (is_fit begun ≡ true)
StandsFor begun line true = ((more : List ℕ) → is_fit (begun ++ more) ≡ false) × (begun ≢ [])

ends_same : (begun line : List ℕ) (bad : Bool) → StandsFor begun line bad → at_end line bad ≡ torn begun
ends_same [] line false stands = rw stands.0 refl
ends_same (first ∷ rest) line false stands = rw stands.0 refl
ends_same [] line true stands = absurd (stands.1 refl)
ends_same (first ∷ rest) line true stands = refl

feeds_same : (begun line : List ℕ) (bad : Bool) → StandsFor begun line bad → at_feed line bad ≡ passed begun
feeds_same begun line false stands = rw (stands.1, stands.0) refl
feeds_same begun line true stands =
    let unfit : is_fit begun ≡ false = subst (λ (l : List ℕ). is_fit l ≡ false) (append-nil begun) (stands.0 []) in
    rw unfit refl

no_end : (begun : List ℕ) (byte : ℕ) → (begun ++ byte ∷ []) ≢ []
no_end [] byte e = absurd (cc)
no_end (first ∷ rest) byte e = absurd (cc)

-- one byte of the line, with what is known of the bytes after it
within : (begun line : List ℕ) (byte : ℕ) (bytes : List ℕ) (bad spoilt_now : Bool)
    → ((b l : List ℕ) (is_bad : Bool) → StandsFor b l is_bad → given_after l is_bad bytes ≡ whole_after b bytes)
    → StandsFor begun line bad → spoils line byte ≡ spoilt_now
    → cond (bad || spoilt_now) (given_after [] true bytes) (given_after (line ++ byte ∷ []) false bytes)
    ≡ whole_after (begun ++ byte ∷ []) bytes
within begun line byte bytes true spoilt_now rest had is = rest (begun ++ byte ∷ []) [] true (
  (λ more. subst (λ (l : List ℕ). is_fit l ≡ false) (sym (append_assoc begun (byte ∷ []) more)) (had.0 (byte ∷ more))),
  no_end begun byte,
)
within begun line byte bytes false true rest had is =
    let here : spoils begun byte ≡ true = subst (λ (l : List ℕ). spoils l byte ≡ true) had.0 is in
    rest (begun ++ byte ∷ []) [] true (
      (λ more. subst (λ (l : List ℕ). is_fit l ≡ false) (sym (append_assoc begun (byte ∷ []) more)) (spoilt begun byte more here)),
      no_end begun byte,
    )
within begun line byte bytes false false rest had is =
    let here : spoils begun byte ≡ false = subst (λ (l : List ℕ). spoils l byte ≡ false) had.0 is in
    rest (begun ++ byte ∷ []) (line ++ byte ∷ []) false
    (ap (λ (l : List ℕ). l ++ byte ∷ []) had.0, fits_more begun byte had.1 here)

step : (begun line : List ℕ) (byte : ℕ) (bytes : List ℕ) (bad is_feed : Bool)
    → ((b l : List ℕ) (is_bad : Bool) → StandsFor b l is_bad → given_after l is_bad bytes ≡ whole_after b bytes)
    → StandsFor begun line bad
    → cond is_feed (at_feed line bad ++ given_after [] false bytes)
    (cond (bad || spoils line byte) (given_after [] true bytes) (given_after (line ++ byte ∷ []) false bytes))
    ≡ cond is_feed (passed begun ++ whole_after [] bytes) (whole_after (begun ++ byte ∷ []) bytes)
step begun line byte bytes bad true rest stands = rw (feeds_same begun line bad stands, rest [] [] false (refl, refl)) refl
step begun line byte bytes bad false rest stands = within begun line byte bytes bad (spoils line byte) rest stands refl

-- the bytes to come make the same of both
goes_on : (begun line : List ℕ) (bad : Bool) (bytes : List ℕ) → StandsFor begun line bad → given_after line bad bytes
    ≡ whole_after begun bytes
goes_on begun line bad [] stands = ends_same begun line bad stands
goes_on begun line bad (byte ∷ bytes) stands =
    step begun line byte bytes bad (byte == 10) (λ b l is_bad had. goes_on b l is_bad bytes had) stands

-- from the beginning of a stream
pub whole_from : (bytes : List ℕ) → given_after [] false bytes ≡ whole_lines bytes
whole_from bytes = goes_on [] [] false bytes (refl, refl)
