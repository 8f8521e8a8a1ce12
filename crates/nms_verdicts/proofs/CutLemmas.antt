-- What a failing bound says of its cut, and doubts of the same cuts under equal names.
use Rattle.std.proofs.Common.{ℕ, ℤ, ◌≡◌, ◌<◌, true, false, List, length, get_or, ap, subst, ◌∙◌}
use Rattle.std.specs.Int.RustNames.{int_lt}
use Rattle.std.specs.List.{list_any}
use Rattle.std.proofs.Common.{Bool, ◌⊎◌, inl, inr}
use Rattle.std.proofs.lemmas.Bool.{both_ways, cases_Bool, false≢true}
use Rattle.std.proofs.lemmas.List.Folds.{list_any_at}
use Rattle.nms_quote.specs.declared.certificate.Cut.{Cut}
use Rattle.nms_quote.specs.declared.certificate.CutKind.{CutKind}
use Rattle.nms_quote.specs.declared.certificate.CutKind.TheVariants.{TooMuch, TooLittle, Marginal}
use Rattle.nms_quote.specs.declared.order.OrderSide.{OrderSide}
use Rattle.nms_rules.specs.Usable.{Usable}
use Rattle.nms_cert.specs.Doubts.{cuts_doubt, fails_bound, some_is_extra}
use Rattle.nms_cert.specs.declared.doubt.Doubt.{Doubt}
use Rattle.nms_verdicts.specs.DoubtPlaces.{IsBound, IsCutsPlace, IsDisorder, IsExtraPlace, IsMarginal}
use Rattle.nms_verdicts.specs.declared.plan_places.doubt_places.DoubtPlace.{DoubtPlace}
use Rattle.nms_verdicts.specs.declared.plan_places.doubt_places.DoubtPlace.TheVariants as place

pub fails-marginal : (rows : List Usable) (most : ℕ) (cost cutoff : ℤ) (kind : CutKind) → fails_bound rows most cost cutoff kind ≡ true
    → IsMarginal kind
fails-marginal rows most cost cutoff TooMuch fails = false≢true fails
fails-marginal rows most cost cutoff TooLittle fails = false≢true fails
fails-marginal rows most cost cutoff (Marginal marginal) fails = tt

pub fails-cost : (rows : List Usable) (most : ℕ) (cost cutoff : ℤ) (kind : CutKind) (bound : ℤ)
    → fails_bound rows most cost cutoff kind ≡ true → IsBound rows most cutoff kind bound → int_lt bound cost ≡ true
fails-cost rows most cost cutoff TooMuch bound fails is = absurd is
fails-cost rows most cost cutoff TooLittle bound fails is = absurd is
fails-cost rows most cost cutoff (Marginal marginal) bound fails is = ap (λ (z : ℤ). int_lt z cost) is ∙ fails

none-step : {X : Type 0} (p : X → Bool) (xs : List X) (i : ℕ) (d : X) → list_any p xs ≡ false → i < length xs
    → (p (get_or xs i d) ≡ true) ⊎ (p (get_or xs i d) ≡ false) → p (get_or xs i d) ≡ false
none-step p xs i d none below (inl holds) = absurd (both_ways (list_any p xs) none (list_any_at p xs i d below holds))
none-step p xs i d none below (inr fails) = fails

-- if no element passes, one that is there does not
pub none-at : {X : Type 0} (p : X → Bool) (xs : List X) (i : ℕ) (x : X) → list_any p xs ≡ false → i < length xs → x ≡ get_or xs i x
    → p x ≡ false
none-at p xs i x none below is = ap p is ∙ none-step p xs i x none below (cases_Bool (p (get_or xs i x)))

pub same-doubt : (side side' : OrderSide) (rows rows' : List Usable) (most most' : ℕ) (cost : ℤ) (cuts cuts' : List Cut)
    → side' ≡ side → rows' ≡ rows → most' ≡ most → cuts' ≡ cuts
    → cuts_doubt side' rows' most' cost cuts' ≡ cuts_doubt side rows most cost cuts
same-doubt side side' rows rows' most most' cost cuts cuts' s r m k =
    ap (λ (it : OrderSide). cuts_doubt it rows' most' cost cuts') s ∙ (ap (λ (it : List Usable). cuts_doubt side it most' cost cuts') r
    ∙ (ap (λ (it : ℕ). cuts_doubt side rows it cost cuts') m ∙ ap (cuts_doubt side rows most cost) k))

pub same-place : (side side' : OrderSide) (rows rows' : List Usable) (most most' : ℕ) (cost : ℤ) (cuts cuts' : List Cut) (why : Doubt)
    (place : DoubtPlace) → side' ≡ side → rows' ≡ rows → most' ≡ most → cuts' ≡ cuts
    → IsCutsPlace side' rows' most' cost cuts' why place → IsCutsPlace side rows most cost cuts why place
same-place side side' rows rows' most most' cost cuts cuts' why place s r m k is =
    subst (λ (it : List Cut). IsCutsPlace side rows most cost it why place) k
    (subst (λ (it : ℕ). IsCutsPlace side rows it cost cuts' why place) m
    (subst (λ (it : List Usable). IsCutsPlace side it most' cost cuts' why place) r
    (subst (λ (it : OrderSide). IsCutsPlace it rows' most' cost cuts' why place) s is)))

pub extra-disordered : (side : OrderSide) (rows : List Usable) (cuts : List Cut) (at : DoubtPlace) → IsDisorder side cuts at
    → some_is_extra rows cuts ≡ false → IsExtraPlace side rows cuts at
extra-disordered side rows cuts (place.OutOfOrder cut later) is none = (is, none)
extra-disordered side rows cuts (place.Breach breach) is none = absurd is
extra-disordered side rows cuts (place.NotMost found expected) is none = absurd is
extra-disordered side rows cuts (place.CutMissing row) is none = absurd is
extra-disordered side rows cuts (place.CutExtra cut) is none = absurd is
extra-disordered side rows cuts (place.WrongKind cut sums) is none = absurd is
extra-disordered side rows cuts (place.MarginalRange cut) is none = absurd is
extra-disordered side rows cuts (place.BoundFails cut bound cost) is none = absurd is
