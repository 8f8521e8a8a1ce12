-- The place of a doubt in a plan or its certificate, what was found there and what was expected. Each place follows from the
-- doubt's condition (`Doubts` of `nms_cert`). This product's own rule.
use Rattle.std.specs.Prelude.{ℕ, ℤ, ⊤, ◌≡◌, ◌≢◌, ◌+◌, ◌<◌, true, false, not, List, Some, drop, position, slice_get, slice_index_or}
use Rattle.std.specs.Int.RustNames.{int_lt}
use Rattle.std.specs.List.{find}
use Rattle.nms_quote.specs.Terms.{Terms}
use Rattle.nms_quote.specs.declared.certificate.Cut.{Cut}
use Rattle.nms_quote.specs.declared.certificate.CutKind.{CutKind}
use Rattle.nms_quote.specs.declared.certificate.CutKind.TheVariants.{TooMuch, TooLittle, Marginal}
use Rattle.nms_quote.specs.declared.order.OrderSide.{OrderSide}
use Rattle.nms_quote.specs.declared.plan.Plan.{Plan}
use Rattle.nms_board.specs.View.{Seen}
use Rattle.nms_fee_book.specs.Fees.{Charges}
use Rattle.nms_rules.specs.Assignment.{fillable}
use Rattle.nms_rules.specs.Cutoff.{least_cost, pool, swept}
use Rattle.nms_rules.specs.Usable.{Usable, is_better, rank_of, usable}
use Rattle.nms_cert.specs.Doubts.{has_cut, has_row, is_not_better, is_out_of_range, is_wrong_kind, some_is_extra}
use Rattle.nms_cert.specs.declared.doubt.Doubt.{Doubt}
use Rattle.nms_cert.specs.declared.doubt.Doubt.TheVariants as doubt
use Rattle.nms_verdicts.specs.BreachPlaces.{IsBreachPlace}
use Rattle.nms_verdicts.specs.declared.plan_places.cut_place.CutPlace.{CutPlace}
use Rattle.nms_verdicts.specs.declared.plan_places.cut_place.CutSums.{CutSums}
use Rattle.nms_verdicts.specs.declared.plan_places.doubt_places.DoubtPlace.{DoubtPlace}
use Rattle.nms_verdicts.specs.declared.plan_places.doubt_places.DoubtPlace.TheVariants as place

-- the cut of that number, counted from 0
abbrev pub IsCutPlace : List Cut → CutPlace → Type 0
IsCutPlace cuts at = slice_get cuts at.number ≡ Some at.cut

-- the sums at a cutoff, if n shares can be filled
pub record AreSums (rows : List Usable) (all : ℕ) (cutoff : ℤ) (sums : CutSums) : Type 0 where
  pub most : sums.most ≡ all
  pub swept : sums.swept ≡ swept cutoff rows
  pub pool : sums.pool ≡ pool cutoff rows

-- a cut with a marginal, and the least that a plan costs by it
abbrev pub IsMarginal : CutKind → Type 0
IsMarginal TooMuch = ⊥
IsMarginal TooLittle = ⊥
IsMarginal (Marginal marginal) = ⊤

abbrev pub IsBound : List Usable → ℕ → ℤ → CutKind → ℤ → Type 0
IsBound rows most cutoff TooMuch bound = ⊥
IsBound rows most cutoff TooLittle bound = ⊥
IsBound rows most cutoff (Marginal marginal) bound = bound ≡ least_cost rows most cutoff marginal

-- ---- one by one

-- the plan fills less than can be filled
abbrev pub IsShort : Seen → Terms → Charges → Plan → DoubtPlace → Type 0
IsShort seen order fees plan (place.NotMost found expected) =
    (found ≡ plan.filled) × (expected ≡ fillable (usable seen order fees) order.shares) × (found ≢ expected)
IsShort seen order fees plan _ = ⊥

-- the first usable row, by participant place, whose price has no cut
abbrev pub IsMissingPlace : List Usable → List Cut → DoubtPlace → Type 0
IsMissingPlace rows cuts (place.CutMissing row) =
    (find (λ it. not (has_cut cuts it.price)) rows ≡ Some row) × (has_cut cuts row.price ≡ false)
IsMissingPlace rows cuts _ = ⊥

-- the first cut that is not at a better price than a later one, and the first such later one
pub record IsOutOfOrder (side : OrderSide) (cuts : List Cut) (at later : CutPlace) : Type 0 where
  pub stands : IsCutPlace cuts at
  pub stands_too : IsCutPlace cuts later
  pub before : at.number < later.number
  pub worse : is_better side at.cut.price later.cut.price ≡ false
  -- each before it is better than all later ones
  pub first : (k : ℕ) → k < at.number → (d : Cut) → is_not_better side (slice_index_or cuts k d).price (drop (k + 1) cuts) ≡ false
  -- and it is better than each between the two
  pub next : (k : ℕ) → at.number < k → k < later.number → (d : Cut) → is_better side at.cut.price (slice_index_or cuts k d).price ≡ true

abbrev pub IsDisorder : OrderSide → List Cut → DoubtPlace → Type 0
IsDisorder side cuts (place.OutOfOrder at later) = IsOutOfOrder side cuts at later
IsDisorder side cuts _ = ⊥

-- the first cut at no usable price, or else, if each is at one, a cut that is out of order
abbrev pub IsExtraPlace : OrderSide → List Usable → List Cut → DoubtPlace → Type 0
IsExtraPlace side rows cuts (place.CutExtra at) = IsCutPlace cuts at × (has_row rows at.cut.price ≡ false)
    × (position (λ cut. not (has_row rows cut.price)) cuts ≡ Some at.number)
IsExtraPlace side rows cuts other = IsDisorder side cuts other × (some_is_extra rows cuts ≡ false)

-- the first cut that contradicts the sums at its price
abbrev pub IsKindPlace : OrderSide → List Usable → ℕ → List Cut → DoubtPlace → Type 0
IsKindPlace side rows most cuts (place.WrongKind at sums) =
    IsCutPlace cuts at × AreSums rows most (rank_of side at.cut.price) sums
    × (is_wrong_kind rows most (rank_of side at.cut.price) at.cut.kind ≡ true)
    × (position (λ cut. is_wrong_kind rows most (rank_of side cut.price) cut.kind) cuts ≡ Some at.number)
IsKindPlace side rows most cuts _ = ⊥

-- the first cut whose marginal is out of its range
abbrev pub IsRangePlace : List Cut → DoubtPlace → Type 0
IsRangePlace cuts (place.MarginalRange at) = IsCutPlace cuts at × (is_out_of_range at.cut.kind ≡ true)
    × (position (λ cut. is_out_of_range cut.kind) cuts ≡ Some at.number)
IsRangePlace cuts _ = ⊥

-- the cut of that number, with its own bound, which is below what the plan costs
abbrev pub IsBoundPlace : OrderSide → List Usable → ℕ → ℤ → List Cut → ℕ → DoubtPlace → Type 0
IsBoundPlace side rows most cost cuts number (place.BoundFails at bound found) =
    IsCutPlace cuts at × (at.number ≡ number) × (found ≡ cost) × IsBound rows most (rank_of side at.cut.price) at.cut.kind bound
    × (int_lt bound cost ≡ true)
IsBoundPlace side rows most cost cuts number _ = ⊥

-- ---- all of them

-- a doubt of the cuts, if n shares can be filled and the plan costs that much
abbrev pub IsCutsPlace : OrderSide → List Usable → ℕ → ℤ → List Cut → Doubt → DoubtPlace → Type 0
IsCutsPlace side rows most cost cuts doubt.CutMissing at = IsMissingPlace rows cuts at
IsCutsPlace side rows most cost cuts doubt.CutExtra at = IsExtraPlace side rows cuts at
IsCutsPlace side rows most cost cuts doubt.WrongKind at = IsKindPlace side rows most cuts at
IsCutsPlace side rows most cost cuts doubt.MarginalRange at = IsRangePlace cuts at
IsCutsPlace side rows most cost cuts (doubt.BoundFails number) at = IsBoundPlace side rows most cost cuts number at
IsCutsPlace side rows most cost cuts (doubt.Breach breach) at = ⊥
IsCutsPlace side rows most cost cuts doubt.NotMost at = ⊥

-- a breach has its own place, in the plan
abbrev pub IsBreachIn : Seen → Terms → Charges → Plan → Doubt → DoubtPlace → Type 0
IsBreachIn seen order fees plan (doubt.Breach breach) (place.Breach at) = IsBreachPlace seen order fees plan breach at
IsBreachIn seen order fees plan _ _ = ⊥

-- what a place says of a doubt of a plan and its cuts
abbrev pub IsDoubtPlace : Seen → Terms → Charges → Plan → List Cut → Doubt → DoubtPlace → Type 0
IsDoubtPlace seen order fees plan cuts (doubt.Breach breach) at = IsBreachIn seen order fees plan (doubt.Breach breach) at
IsDoubtPlace seen order fees plan cuts doubt.NotMost at = IsShort seen order fees plan at
IsDoubtPlace seen order fees plan cuts found at = IsCutsPlace order.side (usable seen order fees)
    (fillable (usable seen order fees) order.shares) plan.cost cuts found at
