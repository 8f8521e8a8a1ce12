-- How what a keeper keeps comes from one publishing to the next.
use Rattle.std.proofs.Common.{ℕ, ◌≡◌, ◌≤◌, ◌⊎◌, ◌++◌, List, [], ◌∷◌, length, Option, refl, ap, sym, subst, ◌∙◌, inl, inr, arith, length-append}
use Rattle.std.specs.Prelude.{◌↔◌}
use Rattle.std.specs.List.{AllByRecursion, Contains}
use Rattle.std.proofs.lemmas.List.Elements.{Contains-append_left, Contains-push, Contains-push_cases}
use Rattle.nms_versions.specs.Published.{Batches, changes, publications}
use Rattle.nms_versions.specs.Taped.{Taped, tape_of}
use Rattle.nms_live.specs.Faults.{IsNoLineIfAny}
use Rattle.nms_live.specs.Keeping.{AreListed, IsKept, IsSameKeeping, Keeping}
use Rattle.nms_live.specs.declared.live_fault.LiveFault.{LiveFault}
use Rattle.nms_live.proofs.NumberFacts.{all_push, below_all, rising_push}

-- while nothing is published all is kept, whatever it stops for
pub kept_with : (old new : Taped) (listed : List ℕ) (stop other : Option LiveFault) → new.published ≡ old.published → IsNoLineIfAny other
    → IsKept old listed stop → IsKept new listed other
kept_with old new listed stop other same fine had = record {
  published = subst (λ (b : Batches). AreListed b listed) (sym same) had.published;
  rising = had.rising;
  within = subst (λ (b : Batches). AllByRecursion (λ n. n ≤ length (changes b)) listed) (sym same) had.within;
  stopped = fine;
}

-- a length more was published and listed
listed_more : (old new : Batches) (listed : List ℕ) (n : ℕ)
    → ((m : ℕ) → Contains (publications new) m ↔ Contains (publications old) m ⊎ (m ≡ n)) → AreListed old listed
    → AreListed new (listed ++ n ∷ [])
listed_more old new listed n these had = λ m. (
  λ among. elim ((these m).0 among) as (λ (h : Contains (publications old) m ⊎ (m ≡ n)). (m ≡ 0) ⊎ Contains (listed ++ n ∷ []) m) [
    | inl before ↦ elim ((had m).0 before) as (λ (h : (m ≡ 0) ⊎ Contains listed m). (m ≡ 0) ⊎ Contains (listed ++ n ∷ []) m) [
      | inl none ↦ inl none
      | inr among ↦ inr (Contains-append_left listed (n ∷ []) m among)
    ]
    | inr here ↦ inr (rw here (Contains-push listed n))
  ],
  λ either. elim either as (λ (h : (m ≡ 0) ⊎ Contains (listed ++ n ∷ []) m). Contains (publications new) m) [
    | inl none ↦ (these m).1 (inl ((had m).1 (inl none)))
    | inr among ↦ elim (Contains-push_cases listed n m among) as (λ (h : Contains listed m ⊎ (n ≡ m)). Contains (publications new) m) [
      | inl before ↦ (these m).1 (inl ((had m).1 (inr before)))
      | inr here ↦ (these m).1 (inr (sym here))
    ]
  ],
)

-- nothing was published but the empty version
pub none_listed : AreListed [] []
none_listed n = (
  λ among. elim (Contains-push_cases [] 0 n among) as (λ (h : Contains [] n ⊎ (0 ≡ n)). (n ≡ 0) ⊎ Contains [] n) [
    | inl nowhere ↦ inr nowhere
    | inr here ↦ inl (sym here)
  ],
  λ either. elim either as (λ (h : (n ≡ 0) ⊎ Contains [] n). Contains (publications []) n) [
    | inl none ↦ rw none (Contains-push [] 0)
    | inr nowhere ↦ absurd (omega (arith, nowhere.1))
  ],
)

-- all of the tape was published, and its length listed
pub kept_more : (old new : Taped) (listed more : List ℕ) (stop : Option LiveFault)
    → ((n : ℕ) → Contains (publications new.published) n ↔ Contains (publications old.published) n ⊎ (n ≡ length (tape_of old)))
    → changes new.published ≡ tape_of old → more ≡ listed ++ length (tape_of old) ∷ [] → IsKept old listed stop → IsKept new more stop
kept_more old new listed more stop these whole is had =
    let n = length (tape_of old) in
    let le : length (changes old.published) ≤ n = omega (arith, length-append (changes old.published) old.pending) in
    let below = below_all listed (length (changes old.published)) n le had.within in
    let top : n ≤ length (changes new.published) = omega (arith, ap length whole) in
    rw is (record {
      published = listed_more old.published new.published listed n these had.published;
      rising = rising_push listed n had.rising below;
      within = all_push (λ k. k ≤ length (changes new.published)) listed n (below_all listed n (length (changes new.published)) top below)
          top;
      stopped = had.stopped;
    })

-- the opening and the bounds stay what they are
pub same_self : (k : Keeping) → IsSameKeeping k k
same_self k = record { opening = refl; sizes = refl; limit = refl }

-- and stay the same through two steps
pub same_then : (old mid new : Keeping) → IsSameKeeping old mid → IsSameKeeping mid new → IsSameKeeping old new
same_then old mid new before after = record {
  opening = after.opening ∙ before.opening;
  sizes = after.sizes ∙ before.sizes;
  limit = after.limit ∙ before.limit;
}

-- the same tape has the same opening and bounds
pub same_taped : (old new : Keeping) → new.taped ≡ old.taped → IsSameKeeping old new
same_taped old new is = record {
  opening = ap (λ (t : Taped). t.opening) is;
  sizes = ap (λ (t : Taped). t.sizes) is;
  limit = ap (λ (t : Taped). t.limit) is;
}
