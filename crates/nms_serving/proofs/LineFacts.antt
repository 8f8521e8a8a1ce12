-- The lines of a text: what is left after some of them, and how many begin.
use Rattle.std.proofs.Common.{ℕ, zero, suc, ◌≡◌, ◌+◌, ◌-◌, ◌<◌, ◌≤◌, ◌==◌, Bool, true, false, List, [], ◌∷◌, ◌++◌, Some, None}
use Rattle.std.proofs.Common.{refl, sym, ap, ◌∙◌, arith, length, length-append, if◌then◌else◌}
use Rattle.std.proofs.lemmas.Bool.{le-ltb, lt-ltb, ne_eqb}
use Rattle.std.proofs.lemmas.List.Folds.{list_any-append}
use Rattle.std.specs.Prelude.{position, ◌||◌}
use Rattle.std.specs.List.{list_any, position_or_len}
use Rattle.nms_serving.specs.Resuming.{after_lines, lines_begun}

-- ---- one byte more

pub after_feed : (left byte : ℕ) (text more : List ℕ) → 0 < left → text ≡ byte ∷ more → byte ≡ 10
    → after_lines left text ≡ after_lines (left - 1) more
after_feed zero byte text more some is ten = absurd (omega arith)
after_feed (suc left) byte text more some is ten = let less : suc left - 1 ≡ left = omega arith in rw (is, ten, less) refl

pub after_other : (left byte : ℕ) (text more : List ℕ) → 0 < left → text ≡ byte ∷ more → (byte ≡ 10 → ⊥)
    → after_lines left text ≡ after_lines left more
after_other zero byte text more some is other = absurd (omega arith)
after_other (suc left) byte text more some is other = rw is (go (byte == 10) (ne_eqb byte 10 other))
  where
    go : (b : Bool) → b ≡ false → after_lines (if b then left else suc left) more ≡ after_lines (suc left) more
    go true off = absurd (cc)
    go false off = refl

pub after_none : (left : ℕ) (text : List ℕ) → 0 < left → length text ≡ 0 → after_lines left text ≡ None
after_none zero text some none = absurd (omega arith)
after_none (suc left) [] some none = refl
after_none (suc left) (byte ∷ text) some none = absurd (omega (arith, none))

-- ---- a line

-- no line feed is in a text
pub record IsUnbroken (text : List ℕ) : Type 0 where
  pub none : list_any (λ byte. byte == 10) text ≡ false

pub neither : (a b : Bool) → (a || b) ≡ false → (a ≡ false) × (b ≡ false)
neither true b is = absurd (cc)
neither false b is = (refl, is)

first_other : (byte : ℕ) (text : List ℕ) → IsUnbroken (byte ∷ text) → (byte == 10) ≡ false
first_other byte text whole = (neither (byte == 10) (list_any (λ b. b == 10) text) whole.none).0

rest_unbroken : (byte : ℕ) (text : List ℕ) → IsUnbroken (byte ∷ text) → IsUnbroken text
rest_unbroken byte text whole = record { none = (neither (byte == 10) (list_any (λ b. b == 10) text) whole.none).1 }

pub both_unbroken : (one other : List ℕ) → IsUnbroken one → IsUnbroken other → IsUnbroken (one ++ other)
both_unbroken one other first second =
    record { none = list_any-append (λ b. b == 10) one other ∙ rw (first.none, second.none) refl }

pub first_unbroken : (one other : List ℕ) → IsUnbroken (one ++ other) → IsUnbroken one
first_unbroken one other whole = record {
  none = (neither (list_any (λ b. b == 10) one) (list_any (λ b. b == 10) other) (sym (list_any-append (λ b. b == 10) one other) ∙ whole.none)).0;
}

pub after_line : (line rest : List ℕ) (lines : ℕ) → IsUnbroken line → after_lines (suc lines) (line ++ 10 ∷ rest) ≡ after_lines lines rest
after_line [] rest lines whole = refl
after_line (byte ∷ line) rest lines whole =
    go (byte == 10) (first_other byte line whole) ∙ after_line line rest lines (rest_unbroken byte line whole)
  where
    go : (b : Bool) → b ≡ false
        → after_lines (if b then lines else suc lines) (line ++ 10 ∷ rest) ≡ after_lines (suc lines) (line ++ 10 ∷ rest)
    go true off = absurd (cc)
    go false off = refl

pub begun_line : (begins : Bool) (line rest : List ℕ) → IsUnbroken line
    → lines_begun begins (line ++ 10 ∷ rest) ≡ (if begins then 1 else 0) + lines_begun true rest
begun_line begins [] rest whole = refl
begun_line begins (byte ∷ line) rest whole =
    let other : lines_begun (byte == 10) (line ++ 10 ∷ rest) ≡ lines_begun false (line ++ 10 ∷ rest) =
    ap (λ (b : Bool). lines_begun b (line ++ 10 ∷ rest)) (first_other byte line whole) in
    let behind : lines_begun false (line ++ 10 ∷ rest) ≡ 0 + lines_begun true rest =
    begun_line false line rest (rest_unbroken byte line whole) in
    let same : lines_begun (byte == 10) (line ++ 10 ∷ rest) ≡ lines_begun true rest = omega (arith, other, behind) in
    ap (λ (n : ℕ). (if begins then 1 else 0) + n) same

-- a part of a text has no more lines
pub begun_part : (begins : Bool) (part rest : List ℕ) → lines_begun begins part ≤ lines_begun begins (part ++ rest)
begun_part begins [] rest = omega arith
begun_part begins (byte ∷ part) rest = omega (arith, begun_part (byte == 10) part rest)

-- the first line feed is at the end of the first line
place_of : (line rest : List ℕ) → IsUnbroken line → position_or_len (λ byte. byte == 10) (line ++ 10 ∷ rest) ≡ length line
place_of [] rest whole = refl
place_of (byte ∷ line) rest whole =
    let more : 1 + length line ≡ suc (length line) = omega arith in
    rw (first_other byte line whole) (ap (λ (n : ℕ). 1 + n) (place_of line rest (rest_unbroken byte line whole)) ∙ more)

pub ends_line : (line rest : List ℕ) → IsUnbroken line → position (λ byte. byte == 10) (line ++ 10 ∷ rest) ≡ Some (length line)
ends_line line rest whole =
    let within : length line < length (line ++ 10 ∷ rest) = omega (arith, length-append line (10 ∷ rest)) in
    rw (place_of line rest whole, lt-ltb (length line) (length (line ++ 10 ∷ rest)) within) refl

no_place : (text : List ℕ) → IsUnbroken text → position_or_len (λ byte. byte == 10) text ≡ length text
no_place [] whole = refl
no_place (byte ∷ text) whole =
    let more : 1 + length text ≡ suc (length text) = omega arith in
    rw (first_other byte text whole) (ap (λ (n : ℕ). 1 + n) (no_place text (rest_unbroken byte text whole)) ∙ more)

pub ends_none : (text : List ℕ) → IsUnbroken text → position (λ byte. byte == 10) text ≡ None
ends_none text whole = rw (no_place text whole, le-ltb (length text) (length text) (omega arith)) refl
