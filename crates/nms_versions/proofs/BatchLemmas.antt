-- Batches in a row: which begin which, and at which lengths they end.
use Rattle.std.proofs.Common.{ℕ, ◌≡◌, ◌+◌, ◌≤◌, suc, List, [], ◌∷◌, ◌++◌, length, map, refl, ap, sym, ◌∙◌, subst, arith, append_assoc}
use Rattle.std.proofs.Common.{length-append}
use Rattle.std.specs.List.{AllByRecursion, Contains}
use mathlib.Core.List.{IsPrefix}
use Rattle.nms_versions.specs.Memory.{Remembers}
use Rattle.nms_versions.specs.Published.{Batches, NoneEmpty, changes, lengths_from, publications}
use Rattle.nms_versions.specs.Taped.{AllBegin}
use Rattle.nms_versions.proofs.Beginnings.{prefix_self, prefix_trans}

pub changes-append : (front back : Batches) → changes (front ++ back) ≡ changes front ++ changes back
changes-append [] back = refl
changes-append (batch ∷ front) back = ap (λ t. batch ++ t) (changes-append front back)
    ∙ sym (append_assoc batch (changes front) (changes back))

pub prefix_changes : (front whole : Batches) → IsPrefix front whole → IsPrefix (changes front) (changes whole)
prefix_changes front whole p = (changes p.0, sym (changes-append front p.0) ∙ ap changes p.1)

-- if two beginnings of batches begin one list, the one with fewer changes begins the other
pub prefix_shorter : (xs ys zs : Batches) → IsPrefix xs zs → IsPrefix ys zs → NoneEmpty zs → length (changes xs) ≤ length (changes ys)
    → IsPrefix xs ys
prefix_shorter [] ys zs p q some le = (ys, refl)
prefix_shorter (x ∷ xs) ys [] p q some le = absurd (cc (p.1))
prefix_shorter (x ∷ xs) [] (z ∷ zs) p q some le =
    let head : x ≡ z = cc (p.1) in
    absurd (omega (arith, length-append x (changes xs), ap length head, some.0, le))
prefix_shorter (x ∷ xs) (y ∷ ys) (z ∷ zs) p q some le =
    let heads : x ≡ y = cc (p.1, q.1) in
    let rest = prefix_shorter xs ys zs (p.0, cc (p.1)) (q.0, cc (q.1)) some.1
    (omega (arith, length-append x (changes xs), length-append y (changes ys), ap length heads, le)) in
    (rest.0, cc (heads, rest.1))

all_trans : (memory : List Batches) (longest new : Batches) → AllByRecursion (λ earlier. IsPrefix earlier longest) memory
    → IsPrefix longest new → AllByRecursion (λ earlier. IsPrefix earlier new) memory
all_trans [] longest new h p = tt
all_trans (m ∷ memory) longest new h p = (prefix_trans m longest new h.0 p, all_trans memory longest new h.1 p)

-- one more is remembered, which what is known begins
pub remembers_longer : (longest new : Batches) (count more : ℕ) (memory : List Batches) → Remembers longest count memory
    → IsPrefix longest new → more ≡ length (changes new) → count ≤ more
    → Remembers new more (new ∷ memory)
remembers_longer longest new count more memory h p counted le = record {
  begin = (prefix_self new, all_trans memory longest new h.begin p);
  counted = counted;
  greatest = omega (arith, counted, h.greatest, le);
}

-- one more is remembered, which begins what is known
pub remembers_shorter : (longest new : Batches) (count : ℕ) (memory : List Batches) → Remembers longest count memory → IsPrefix new longest
    → length (changes new) ≤ count
    → Remembers longest count (new ∷ memory)
remembers_shorter longest new count memory h p le = record {
  begin = (p, h.begin);
  counted = h.counted;
  greatest = omega (arith, h.greatest, le);
}

-- all that is known begins a version that begins with the longest
pub all_begin : (memory : List Batches) (longest new : Batches) → AllByRecursion (λ earlier. IsPrefix earlier longest) memory
    → IsPrefix longest new → AllBegin (changes new) (map changes memory)
all_begin [] longest new h p = tt
all_begin (m ∷ memory) longest new h p = (prefix_changes m new (prefix_trans m longest new h.0 p), all_begin memory longest new h.1 p)

-- the number of changes of the first batches was published once
pub among : (front whole : Batches) (n : ℕ) → IsPrefix front whole → Contains (lengths_from n whole) (n + length (changes front))
among [] [] n p = (0, omega arith, omega arith)
among [] (batch ∷ whole) n p = (0, omega arith, omega arith)
among (x ∷ front) [] n p = absurd (cc (p.1))
among (x ∷ front) (batch ∷ whole) n p =
    let head : x ≡ batch = cc (p.1) in
    let rest = among front whole (n + length batch) (p.0, cc (p.1)) in
    let same : n + length batch + length (changes front) ≡ n + length (x ++ changes front) =
    omega (arith, length-append x (changes front), ap length head) in
    subst (Contains (n ∷ lengths_from (n + length batch) whole)) same (suc rest.0, omega (arith, rest.1), rest.2)

-- all that is known was published
pub all_published : (memory : List Batches) (longest new : Batches) → AllByRecursion (λ earlier. IsPrefix earlier longest) memory
    → IsPrefix longest new
    → AllByRecursion (λ version. Contains (publications new) (length version)) (map changes memory)
all_published [] longest new h p = tt
all_published (m ∷ memory) longest new h p = (
  subst (Contains (publications new)) (omega arith) (among m new 0 (prefix_trans m longest new h.0 p)),
  all_published memory longest new h.1 p,
)
