-- The two steps of a history keep its rule.
use Rattle.std.proofs.Common.{◌≡◌, ℕ, ◌+◌, ◌<◌, ◌==◌, suc, Bool, true, false, List, [], ◌∷◌, ◌++◌, length, refl, ap, sym, ◌∙◌, subst, arith}
use Rattle.std.proofs.Common.{inl, length-append, None, if◌then◌else◌}
use Rattle.std.specs.Prelude.{slice_set}
use Rattle.std.proofs.lemmas.List.{append-nil}
use Rattle.std.proofs.lemmas.Bool.Decides.{nat_tests}
use mathlib.Core.List.{IsPrefix}
use prog.Atomic.{either}
use Rattle.logbook.specs.Pages.{Cell, Goes, Moves, adds, cell, gives, keeps, may_make, nib, no_nib, step}
use Rattle.nms_quote.specs.declared.change.Change.{Change}
use Rattle.nms_versions.specs.History.{Closes, IsKept, Opens, cells_of, key_of, pen_behind}
use Rattle.nms_versions.specs.Published.{Batches, NoneEmpty}
use Rattle.nms_versions.proofs.Beginnings.{prefix_length, prefix_whole}

abbrev pub shown : Batches → Batches
shown log = []

abbrev pub moved : Batches → Batches → ℕ → Type 0
moved xs ys n = Unit {0}

length-cells_of : (log : Batches) (is_open : Bool) → length (cells_of log is_open) ≡ length log + (if is_open then 1 else 0)
length-cells_of [] true = refl
length-cells_of [] false = refl
length-cells_of (batch ∷ log) is_open = omega (arith, length-cells_of log is_open)

-- one more cell, not at home
cells_of_opened : (log : Batches) → cells_of log false ++ (0, false) ∷ [] ≡ cells_of log true
cells_of_opened [] = refl
cells_of_opened (batch ∷ log) = ap (λ cells. (0, true) ∷ cells) (cells_of_opened log)

-- the last cell brought home
cells_of_closed : (log : Batches) (batch : List Change) → slice_set (cells_of log true) (length log) (0, true)
    ≡ cells_of (log ++ batch ∷ []) false
cells_of_closed [] batch = refl
cells_of_closed (x ∷ log) batch = ap (λ cells. (0, true) ∷ cells) (cells_of_closed log batch)

pub none_empty_push : (log : Batches) (batch : List Change) → NoneEmpty log → 0 < length batch → NoneEmpty (log ++ batch ∷ [])
none_empty_push [] batch h some = (some, tt)
none_empty_push (x ∷ log) batch h some = (h.0, none_empty_push log batch h.1 some)

-- if the cell after all that was seen is not at home, nothing more was published, and a batch is open
lone : (seen log : Batches) (is_open : Bool) → IsPrefix seen log → length seen < length (cells_of log is_open)
    → (cell (cells_of log is_open) (length seen)).1 ≡ false → (seen ≡ log) × (is_open ≡ true)
lone [] [] true p within away = (refl, refl)
lone [] [] false p within away = absurd (omega arith)
lone [] (batch ∷ log) is_open p within away = absurd (cc away)
lone (x ∷ seen) [] is_open p within away = absurd (cc (p.1))
lone (x ∷ seen) (batch ∷ log) is_open p within away =
    let rest = lone seen log is_open (p.0, cc (p.1)) (omega arith) away in
    (cc (p.1, rest.0), rest.1)

module _ (seen : Batches) (old : ℕ) (same : length seen ≡ old) where
  abbrev Tells : ℕ → List Cell → Batches → Type 0
  Tells key words log = Goes IsKept shown moved key (seen, (no_nib, None)) (λ n. either (n == old) (old + 1) n)
      (Opens (step key old (old + 1) []) (seen, (no_nib, None))) words log

  -- the exchange opens a batch if nothing was published that had not been seen; else it leaves all
  opens_goes : (log : Batches) (is_open : Bool) → NoneEmpty log → IsPrefix seen log → (b : Bool)
      → (length (cells_of log is_open) == old) ≡ b
      → Tells 0 ((length (cells_of log is_open), true) ∷ (0, true) ∷ cells_of log is_open) log
  opens_goes log true none pre true is =
      let count : length (cells_of log true) ≡ old = grind (arith, nat_tests) in
      absurd (omega (arith, length-cells_of log true, count, same, prefix_length seen log pre))
  opens_goes log false none pre true is =
      let count : length (cells_of log false) ≡ old = grind (arith, nat_tests) in
      let long : length (cells_of log false) ≡ length log = omega (arith, length-cells_of log false) in
      let whole : seen ≡ log = prefix_whole seen log pre (omega (arith, long, count, same)) in
      let all : log ++ [] ≡ log = append-nil log in
      let number : either (length (cells_of log false) == old) (old + 1) (length (cells_of log false))
      ≡ length (cells_of (log ++ []) true) =
      rw (is, all) (omega (arith, length-cells_of log true, long, count)) in
      let cells : cells_of log false ++ (0, false) ∷ [] ≡ cells_of (log ++ []) true = cells_of_opened log
      ∙ ap (λ l. cells_of l true) (sym all) in (
        adds,
        [],
        None,
        tt,
        record { is_open = true; words_are = λ i. (number i, true) ∷ (0, true) ∷ cells i; none_empty = subst NoneEmpty (sym all) none },
        inl (refl, refl),
        λ _. (all ∙ sym whole, ap (λ k. nib may_make (suc (suc k)) 0) (long ∙ ap length (sym whole))),
      )
  opens_goes log is_open none pre false is =
      let all : log ++ [] ≡ log = append-nil log in
      let number : either (length (cells_of log is_open) == old) (old + 1) (length (cells_of log is_open))
      ≡ length (cells_of (log ++ []) is_open) =
      rw (is, all) refl in (
        keeps,
        [],
        None,
        tt,
        record {
          is_open = is_open;
          words_are = λ i. (number i, true) ∷ (0, true) ∷ cells_of ((sym all) i) is_open;
          none_empty = subst NoneEmpty (sym all) none;
        },
        inl (refl, refl),
        λ found. absurd (grind (arith, nat_tests)),
      )

pub opens_moves : (seen : Batches) (old : ℕ) → length seen ≡ old
    → Moves IsKept shown moved 0 (seen, (no_nib, None)) (λ n. either (n == old) (old + 1) n)
    (Opens (step 0 old (old + 1) []) (seen, (no_nib, None)))
opens_moves seen old same words log kept pre away =
    subst (λ (w : List Cell). (0 < length w) × ((cell w 0).1 ≡ true) × Tells seen old same 0 w log) (sym kept.words_are)
    (omega arith, refl, opens_goes seen old same log kept.is_open kept.none_empty pre (length (cells_of log kept.is_open) == old) refl)

-- the second step brings the open batch's cell home
module _ (seen : Batches) (batch : List Change) (some : 0 < length batch) where
  abbrev Puts : ℕ → List Cell → Batches → Type 0
  Puts old words log = Goes IsKept shown moved 0 (seen, (pen_behind (length seen), None)) (λ n. either (n == old) old n)
      (Closes (step 0 old old batch) (seen, (pen_behind (length seen), None))) words log

  same_either : (old n : ℕ) (b : Bool) → (n == old) ≡ b → either b old n ≡ n
  same_either old n true is = grind (arith, nat_tests)
  same_either old n false is = refl

  closes_goes : (old : ℕ) (log : Batches) (is_open : Bool) → NoneEmpty log → seen ≡ log → is_open ≡ true
      → Puts old ((length (cells_of log is_open), true) ∷ (0, true) ∷ cells_of log is_open) log
  closes_goes old log false none whole opened = absurd (cc opened)
  closes_goes old log true none whole opened =
      let same : either (length (cells_of log true) == old) old (length (cells_of log true)) ≡ length (cells_of log true) =
      same_either old (length (cells_of log true)) (length (cells_of log true) == old) refl in
      let home : slice_set (cells_of log true) (length seen) (0, true) ≡ cells_of (log ++ batch ∷ []) false =
      ap (λ (l : Batches). slice_set (cells_of log true) (length l) (0, true)) whole ∙ cells_of_closed log batch in
      let number : length (cells_of log true) ≡ length (cells_of (log ++ batch ∷ []) false) =
      omega (arith, length-cells_of log true, length-cells_of (log ++ batch ∷ []) false, length-append log (batch ∷ [])) in (
        gives,
        batch ∷ [],
        None,
        refl,
        record {
          is_open = false;
          words_are = λ i. ((same ∙ number) i, true) ∷ (0, true) ∷ home i;
          none_empty = none_empty_push log batch none some;
        },
        inl (refl, refl),
        ap (λ l. l ++ batch ∷ []) (sym whole),
      )

pub closes_moves : (seen : Batches) (batch : List Change) (old : ℕ) → 0 < length batch
    → Moves IsKept shown moved 0 (seen, (pen_behind (length seen), None)) (λ n. either (n == old) old n)
    (Closes (step 0 old old batch) (seen, (pen_behind (length seen), None)))
closes_moves seen batch old some words log kept pre away =
    let there = away refl in
    let now : (key_of (length seen) < length ((length (cells_of log kept.is_open), true) ∷ (0, true) ∷ cells_of log kept.is_open))
    × ((cell ((length (cells_of log kept.is_open), true) ∷ (0, true) ∷ cells_of log kept.is_open) (key_of (length seen))).1 ≡ false) =
    subst (λ (w : List Cell). (key_of (length seen) < length w) × ((cell w (key_of (length seen))).1 ≡ false)) kept.words_are there in
    let only = lone seen log kept.is_open pre (omega (arith, now.0)) now.1 in
    subst (λ (w : List Cell). (0 < length w) × ((cell w 0).1 ≡ true) × Puts seen batch some old w log) (sym kept.words_are)
    (omega arith, refl, closes_goes seen batch some old log kept.is_open kept.none_empty only.0 only.1)
