-- A turn of a loop that makes one thing of each element.
use Rattle.std.proofs.Common.{◌≡◌, ◌<◌, ◌+◌, ◌++◌, ◌∙◌, ℕ, List, [], ◌∷◌, length, map, drop, slice_index_or, refl, ap, sym, subst}
use Rattle.std.proofs.Common.{add-one, append_assoc, drop-cons}
use Rattle.std.specs.Prelude.{All}
use Rattle.std.proofs.lemmas.List.{map-append}
use Rattle.std.proofs.lemmas.List.Elements.{All-push}

-- what was made so far and what is left are all, also after one more
pub mapped_next : {X Y Z : Type 0} (made : X → Z) (due : Y → Z) (was now : List X) (x : X) (all : List Y) (i : ℕ) (d : Y) → i < length all
    → now ≡ was ++ x ∷ [] → made x ≡ due (slice_index_or all i d) → map made was ++ map due (drop i all) ≡ map due all
    → map made now ++ map due (drop (i + 1) all) ≡ map due all
mapped_next {X} {Y} {Z} made due was now x all i d within more same before =
    let rest : List Z = map due (drop (i + 1) all) in
    let next : map due (drop i all) ≡ due (slice_index_or all i d) ∷ rest = rw (add-one, drop-cons all i d within) refl in
    ap (λ (xs : List X). map made xs ++ rest) more
    ∙ ap (λ (zs : List Z). zs ++ rest) (map-append made was (x ∷ []))
    ∙ append_assoc (map made was) (made x ∷ []) rest
    ∙ ap (λ (z : Z). map made was ++ z ∷ rest) same
    ∙ ap (λ (zs : List Z). map made was ++ zs) (sym next)
    ∙ before

-- what holds of each so far holds after one more
pub all_next : {X : Type 0} (P : X → Type 0) (was now : List X) (x : X) → now ≡ was ++ x ∷ [] → All P was → P x → All P now
all_next P was now x more before holds = subst (All P) (sym more) (All-push P was x before holds)
