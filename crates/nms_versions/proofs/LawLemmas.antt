-- What the publications are.
use Rattle.std.proofs.Common.{ℕ, zero, suc, ◌≡◌, ◌+◌, ◌<◌, ◌⊎◌, ◌↔◌, inl, inr, ⊎_elim, List, [], ◌∷◌, length, refl, sym, ◌∙◌, subst, arith}
use Rattle.std.proofs.Common.{length-append, slice_index_or, slice_index}
use Rattle.std.specs.Prelude.{replicate}
use Rattle.std.specs.List.{Contains}
use Rattle.std.specs.List.Sorted.{IsStrictlyIncreasing}
use Rattle.std.proofs.lemmas.List.Elements.{Contains-append_cases, Contains-append_left, Contains-append_right}
use Rattle.nms_quote.specs.declared.change.Change.{Change}
use Rattle.nms_versions.specs.Published.{Batches, NoneEmpty, borne, borne_from, changes, lengths_from, publications}
use Rattle.nms_versions.proofs.BatchLemmas.{among}
use Rattle.nms_versions.proofs.Beginnings.{prefix_self}

head_is : (xs : List ℕ) (x n : ℕ) → n ≡ x → Contains (x ∷ xs) n
head_is xs x n is = (0, omega arith, sym is)

tail_has : (xs : List ℕ) (x n : ℕ) → Contains xs n → Contains (x ∷ xs) n
tail_has xs x n h = (suc h.0, omega (arith, h.1), h.2)

head_or_tail : (xs : List ℕ) (x n k : ℕ) → k < length (x ∷ xs) → slice_index_or (x ∷ xs) k n ≡ n → (n ≡ x) ⊎ Contains xs n
head_or_tail xs x n zero within is = inl (sym is)
head_or_tail xs x n (suc k) within is = inr (k, omega arith, is)

all_same : (count x n k : ℕ) → k < length (replicate count x) → slice_index_or (replicate count x) k n ≡ n → n ≡ x
all_same zero x n k within is = absurd (omega arith)
all_same (suc count) x n zero within is = sym is
all_same (suc count) x n (suc k) within is = all_same count x n k (omega arith) is

some_same : (count x : ℕ) → 0 < count → Contains (replicate count x) x
some_same zero x some = absurd (omega arith)
some_same (suc count) x some = (0, omega arith, refl)

-- if a batch is to come, a change bears the length before it
first_borne : (m : ℕ) (log : Batches) → NoneEmpty log → Contains (borne_from m log) m ⊎ (length (changes log) ≡ 0)
first_borne m [] some = inr refl
first_borne m (batch ∷ log) some = inl (Contains-append_left (replicate (length batch) m) (borne_from (m
    + length batch) log) m (some_same (length batch) m some.0))

abbrev IsBorne : ℕ → Batches → ℕ → Type 0
IsBorne m log n = (n ≡ m) ⊎ (Contains (borne_from m log) n ⊎ (n ≡ m + length (changes log)))

borne_of : (m : ℕ) (log : Batches) (n : ℕ) → NoneEmpty log → Contains (lengths_from m log) n → IsBorne m log n
borne_of m [] n some h = ⊎_elim (λ here. inl here) (λ (none : Contains [] n). absurd (omega (arith, none.1)))
    (head_or_tail [] m n h.0 h.1 h.2)
borne_of m (batch ∷ log) n some h =
    let whole : m + length batch + length (changes log) ≡ m + length (changes (batch ∷ log)) =
    omega (arith, length-append batch (changes log)) in
    let later : Contains (borne_from (m + length batch) log) n → Contains (borne_from m (batch ∷ log)) n =
    λ there. Contains-append_right (replicate (length batch) m) (borne_from (m + length batch) log) n there in
    ⊎_elim (λ here. inl here)
    (λ (rest : Contains (lengths_from (m + length batch) log) n).
    ⊎_elim (λ (at : n ≡ m + length batch).
    ⊎_elim (λ (b : Contains (borne_from (m + length batch) log) (m + length batch)). inr
    (inl (later (subst (Contains (borne_from (m + length batch) log)) (sym at) b))))
    (λ (none : length (changes log) ≡ 0). inr (inr (omega (arith, at, none, whole)))) (first_borne (m + length batch) log some.1))
    (λ (more : Contains (borne_from (m + length batch) log) n ⊎ (n ≡ m + length batch + length (changes log))).
    inr (⊎_elim (λ b. inl (later b)) (λ (last : n ≡ m + length batch + length (changes log)). inr (last ∙ whole)) more))
    (borne_of (m + length batch) log n some.1 rest))
    (head_or_tail (lengths_from (m + length batch) log) m n h.0 h.1 h.2)

starts : (m : ℕ) (log : Batches) (n : ℕ) → n ≡ m → Contains (lengths_from m log) n
starts m [] n is = head_is [] m n is
starts m (batch ∷ log) n is = head_is (lengths_from (m + length batch) log) m n is

of_borne : (m : ℕ) (log : Batches) (n : ℕ) → Contains (borne_from m log) n → Contains (lengths_from m log) n
of_borne m [] n h = absurd (omega (arith, h.1))
of_borne m (batch ∷ log) n h =
    ⊎_elim (λ (b : Contains (replicate (length batch) m) n). head_is (lengths_from (m + length batch) log) m n
    (all_same (length batch) m n b.0 b.1 b.2))
    (λ (b : Contains (borne_from (m + length batch) log) n). tail_has (lengths_from (m + length batch) log) m n
    (of_borne (m + length batch) log n b))
    (Contains-append_cases (replicate (length batch) m) (borne_from (m + length batch) log) n h)

last_of : (log : Batches) (n : ℕ) → n ≡ length (changes log) → Contains (publications log) n
last_of log n is = subst (Contains (publications log)) (omega (arith, is)) (among log log 0 (prefix_self log))

pub these : (log : Batches) (pending : List Change) (n : ℕ) → NoneEmpty log
    → Contains (publications log) n ↔ (n ≡ 0) ⊎ (Contains (borne log pending) n ⊎ (n ≡ length (changes log)))
these log pending n some = (
  (λ h. ⊎_elim (λ start. inl start)
      (λ (more : Contains (borne_from 0 log) n ⊎ (n ≡ 0 + length (changes log))). inr (⊎_elim
      (λ b. inl (Contains-append_left (borne_from 0 log) (replicate (length pending) (length (changes log))) n b))
      (λ (last : n ≡ 0 + length (changes log)). inr (omega (arith, last))) more))
      (borne_of 0 log n some h)),
  ⊎_elim (λ start. starts 0 log n start)
      (⊎_elim (λ (b : Contains (borne log pending) n). ⊎_elim (λ front. of_borne 0 log n front)
      (λ (back : Contains (replicate (length pending) (length (changes log))) n). last_of log n
      (all_same (length pending) (length (changes log)) n back.0 back.1 back.2))
      (Contains-append_cases (borne_from 0 log) (replicate (length pending) (length (changes log))) n b))
      (λ (last : n ≡ length (changes log)). last_of log n last)),
)

first_length : (m : ℕ) (log : Batches) → slice_index (lengths_from m log) 0 ≡ m
first_length m [] = refl
first_length m (batch ∷ log) = refl

rises : (m : ℕ) (log : Batches) → NoneEmpty log → (k : ℕ) → suc k < length (lengths_from m log)
    → slice_index (lengths_from m log) k < slice_index (lengths_from m log) (suc k)
rises m [] some k within = absurd (omega arith)
rises m (batch ∷ log) some zero within = omega (arith, first_length (m + length batch) log, some.0)
rises m (batch ∷ log) some (suc k) within = rises (m + length batch) log some.1 k (omega arith)

pub rising : (log : Batches) → NoneEmpty log → IsStrictlyIncreasing (publications log)
rising log some k within = let next : k + 1 ≡ suc k = omega arith in rw next (rises 0 log some k (omega (arith, within)))
