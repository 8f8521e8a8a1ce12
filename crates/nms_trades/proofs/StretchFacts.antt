-- Each time is of one of a symbol's shards.
use Rattle.std.proofs.Common.{ℕ, ◌≡◌, ◌&&◌, ◌∙◌, Bool, true, false, List, [], ◌∷◌, None, Some, suc, nat_le, not, length}
use Rattle.std.proofs.Common.{if◌then◌else◌, ap, arith, inl, inr, refl, sym}
use Rattle.std.proofs.lemmas.Bool.{cases_lt, false≢true, le-leb, lt-leb, lt-ltb, le-ltb}
use Rattle.nms_show.proofs.Offered.{both_true}
use Rattle.nms_trades.specs.Stretch.{is_past, owners, rise_from, stretches}
use Rattle.nms_trades.specs.declared.stretch.Stretch.{Stretch}

-- a shard more, by whether the cut before it and that after it are past
one_more : (begun ended : Bool) (own : Stretch) (rest : List Stretch) → length rest ≡ (if ended then 1 else 0)
    → (ended ≡ true → begun ≡ true) → length (if begun && not ended then own ∷ rest else rest) ≡ (if begun then 1 else 0)
one_more true true own rest count later = count
one_more true false own rest count later = ap suc count
one_more false true own rest count later = absurd (false≢true (later refl))
one_more false false own rest count later = count

-- the last one
last_one : (begun : Bool) (own : Stretch) → length (if begun && true then own ∷ [] else []) ≡ (if begun then 1 else 0)
last_one true own = refl
last_one false own = refl

-- an earlier cut is past if a later one is
past_before : (before : Bool) (cut next t : ℕ) → nat_le cut next ≡ true → is_past before next t ≡ true → is_past before cut t ≡ true
past_before true cut next t order past = elim (cases_lt cut t) [
  | inl less ↦ lt-ltb cut t less
  | inr more ↦ elim (cases_lt next cut) [
    | inl falls ↦ absurd (false≢true (sym (lt-leb cut next falls) ∙ order))
    | inr rises ↦ absurd (false≢true (sym (le-ltb next t (omega (arith, rises, more))) ∙ past))
  ]
]
past_before false cut next t order past = elim (cases_lt t cut) [
  | inl less ↦ elim (cases_lt next cut) [
    | inl falls ↦ absurd (false≢true (sym (lt-leb cut next falls) ∙ order))
    | inr rises ↦ absurd (false≢true (sym (lt-leb next t (omega (arith, rises, less))) ∙ past))
  ]
  | inr more ↦ le-leb cut t more
]

-- after a cut: one if it is past, else none
after_cut : (before : Bool) (t cut : ℕ) (cuts : List ℕ) → rise_from cut cuts ≡ true
    → length (owners before t (stretches (Some cut) cuts)) ≡ (if is_past before cut t then 1 else 0)
unfolding rise_from stretches
after_cut before t cut [] rise = last_one (is_past before cut t) (record { from = Some cut; until = None })
after_cut before t cut (next ∷ cuts) rise =
    let parts = both_true (nat_le cut next) (rise_from next cuts) rise in
    one_more (is_past before cut t) (is_past before next t) (record { from = Some cut; until = Some next })
    (owners before t (stretches (Some next) cuts)) (after_cut before t next cuts parts.1)
    (λ past. past_before before cut next t parts.0 past)

-- the same for a whole day
pub just_one : (before : Bool) (cuts : List ℕ) (t : ℕ) → rise_from 0 cuts ≡ true → length (owners before t (stretches None cuts)) ≡ 1
unfolding rise_from stretches
just_one before [] t rise = refl
just_one before (cut ∷ cuts) t rise =
    let parts = both_true (nat_le 0 cut) (rise_from cut cuts) rise in
    one_more true (is_past before cut t) (record { from = None; until = Some cut }) (owners before t (stretches (Some cut) cuts))
    (after_cut before t cut cuts parts.1) (λ past. refl)
