-- A plan and cuts without a doubt are accepted, and the converse.
use Rattle.std.proofs.Common.{ℕ, suc, ◌≡◌, ◌<◌, ◌+◌, ◌==◌, Bool, true, false, List, [], ◌∷◌, length, get_or, All, Any, Option, Some, None}
use Rattle.std.proofs.Common.{refl, ap, sym, arith}
use Rattle.std.specs.Prelude.{ℤ, pos, neg_ℤ, ◌^◌, ◌||◌, not, option_map, AllPairs}
use Rattle.std.specs.List.{list_any}
use Rattle.std.specs.Option.{is_some}
use Rattle.std.specs.Int.RustNames.{int_lt}
use Rattle.std.proofs.lemmas.Bool.{false≢true, not-false, not_from_true, or_parts, or_from, eqb-true, eq-eqb, leb-false, lt-leb, ltb-false}
use Rattle.std.proofs.lemmas.Bool.{le-ltb}
use Rattle.std.proofs.lemmas.List.Folds.{list_any_none, Any-from_list_any, list_any-from_Any}
use Rattle.std.proofs.lemmas.List.Kept.{AllPairs-cons}
use Rattle.nms_quote.specs.Terms.{Terms}
use Rattle.nms_quote.specs.declared.certificate.Cut.{Cut}
use Rattle.nms_quote.specs.declared.certificate.CutKind.{CutKind}
use Rattle.nms_quote.specs.declared.certificate.CutKind.TheVariants.{TooMuch, TooLittle, Marginal}
use Rattle.nms_quote.specs.declared.order.OrderSide.{OrderSide}
use Rattle.nms_quote.specs.declared.plan.Plan.{Plan}
use Rattle.nms_board.specs.View.{Seen}
use Rattle.nms_fee_book.specs.Fees.{Charges}
use Rattle.nms_rules.specs.Accepted.{IsAccepted}
use Rattle.nms_rules.specs.Assignment.{fillable}
use Rattle.nms_rules.specs.Breach.{breach_of}
use Rattle.nms_rules.specs.Cutoff.{KindHolds, least_cost, pool, swept}
use Rattle.nms_rules.specs.Faultless.{IsFaultless}
use Rattle.nms_rules.specs.First.{when, ◌or_else◌}
use Rattle.nms_rules.specs.Usable.{Usable, is_better, rank_of, usable}
use Rattle.nms_cert.specs.Doubts.{cuts_doubt, doubt_of, fails_bound, first_failing, is_not_better, is_out_of_order, is_out_of_range}
use Rattle.nms_cert.specs.Doubts.{is_wrong_kind, some_is_extra, some_is_out_of_range, some_is_wrong_kind, some_lacks_cut}
use Rattle.nms_cert.specs.declared.doubt.Doubt.{Doubt}
use Rattle.nms_cert.specs.declared.doubt.Doubt.TheVariants as doubt
use Rattle.nms_cert.proofs.FindLemmas.{all_fail, none_position, position_none}
use Rattle.nms_rules.proofs.Offered.{lt-false, false-lt}

-- ---- prices

-- each element has one of an equal number
pub covered : {X Y : Type 0} (f : X → ℕ) (g : Y → ℕ) (xs : List X) (ys : List Y)
    → list_any (λ x. not (list_any (λ y. g y == f x) ys)) xs ≡ false → All (λ x. Any (λ y. g y ≡ f x) ys) xs
covered f g xs ys none k d below =
    let at = get_or xs k d in
    let some = Any-from_list_any (λ y. g y == f at) ys
    (not-false (list_any (λ y. g y == f at) ys) (all_fail (λ x. not (list_any (λ y. g y == f x) ys)) xs none k d below)) in
    (some.0, some.1, some.2, some.3, eqb-true (g some.1) (f at) some.4)

pub covers : {X Y : Type 0} (f : X → ℕ) (g : Y → ℕ) (xs : List X) (ys : List Y) → All (λ x. Any (λ y. g y ≡ f x) ys) xs
    → list_any (λ x. not (list_any (λ y. g y == f x) ys)) xs ≡ false
covers f g xs ys each =
    list_any_none (λ x. not (list_any (λ y. g y == f x) ys)) xs (λ k d below.
    let at = get_or xs k d in
    let some = each k d below in
    not_from_true (list_any (λ y. g y == f at) ys)
    (list_any-from_Any (λ y. g y == f at) ys (some.0, some.1, some.2, some.3, eq-eqb (g some.1) (f at) some.4)))

-- ---- the order of the cuts

InOrder : OrderSide → List Cut → Type 0
InOrder side cuts = AllPairs (λ cut later. is_better side cut.price later.price ≡ true) cuts

in_order : (side : OrderSide) (cuts : List Cut) → is_out_of_order side cuts ≡ false → InOrder side cuts
unfolding InOrder is_out_of_order
in_order side [] none = λ i j d less below. absurd (omega (arith, below))
in_order side (cut ∷ later) none =
    let parts = or_parts (is_not_better side cut.price later) (is_out_of_order side later) none in
    AllPairs-cons (λ (one other : Cut). is_better side one.price other.price ≡ true) cut later
    (λ k d below. not-false (is_better side cut.price (get_or later k d).price)
    (all_fail (λ (one : Cut). not (is_better side cut.price one.price)) later parts.0 k d below))
    (in_order side later parts.1)

order_in : (side : OrderSide) (cuts : List Cut) → InOrder side cuts → is_out_of_order side cuts ≡ false
unfolding InOrder is_out_of_order
order_in side [] pairs = refl
order_in side (cut ∷ later) pairs =
    or_from (is_not_better side cut.price later) (is_out_of_order side later)
    (list_any_none (λ (one : Cut). not (is_better side cut.price one.price)) later
    (λ k d below. not_from_true (is_better side cut.price (get_or later k d).price)
    (pairs 0 (suc k) d (omega arith) (omega (arith, below)))))
    (order_in side later (λ i j d less below. pairs (suc i) (suc j) d (omega (arith, less)) (omega (arith, below))))

-- ---- what a cut says

pub kind_holds : (rows : List Usable) (most : ℕ) (cost cutoff : ℤ) (kind : CutKind) → is_wrong_kind rows most cutoff kind ≡ false
    → is_out_of_range kind ≡ false → fails_bound rows most cost cutoff kind ≡ false → KindHolds rows most cost cutoff kind
kind_holds rows most cost cutoff TooMuch right range holds = leb-false (swept cutoff rows) most right
kind_holds rows most cost cutoff TooLittle right range holds = leb-false most (swept cutoff rows + pool cutoff rows) right
kind_holds rows most cost cutoff (Marginal marginal) right range holds =
    let parts = or_parts (int_lt marginal (neg_ℤ (pos (10 ^ 18)))) (int_lt (pos (10 ^ 18)) marginal) range in
    record {
      enough = ltb-false most (swept cutoff rows) right;
      low = lt-false marginal (neg_ℤ (pos (10 ^ 18))) parts.0;
      high = lt-false (pos (10 ^ 18)) marginal parts.1;
      bound = lt-false (least_cost rows most cutoff marginal) cost holds;
    }

holds_kind : (rows : List Usable) (most : ℕ) (cost cutoff : ℤ) (kind : CutKind) → KindHolds rows most cost cutoff kind
    → (is_wrong_kind rows most cutoff kind ≡ false) × (is_out_of_range kind ≡ false) × (fails_bound rows most cost cutoff kind ≡ false)
holds_kind rows most cost cutoff TooMuch holds = (lt-leb (swept cutoff rows) most holds, refl, refl)
holds_kind rows most cost cutoff TooLittle holds = (lt-leb most (swept cutoff rows + pool cutoff rows) holds, refl, refl)
holds_kind rows most cost cutoff (Marginal marginal) holds = (
  le-ltb most (swept cutoff rows) holds.enough,
  or_from (int_lt marginal (neg_ℤ (pos (10 ^ 18)))) (int_lt (pos (10 ^ 18)) marginal) (false-lt marginal (neg_ℤ (pos (10 ^ 18))) holds.low)
      (false-lt (pos (10 ^ 18)) marginal holds.high),
  false-lt (least_cost rows most cutoff marginal) cost holds.bound,
)

-- ---- no doubt

some-none : {X : Type 0} (x : X) → Some x ≡ None → ⊥
some-none x e = false≢true (sym (ap is_some e))

or-none : (one other : Option Doubt) → one or_else other ≡ None → (one ≡ None) × (other ≡ None)
or-none (Some found) other e = absurd (some-none found e)
or-none None other e = (refl, e)

none-or : (one other : Option Doubt) → one ≡ None → other ≡ None → one or_else other ≡ None
none-or (Some found) other e f = absurd (some-none found e)
none-or None other e f = f

when-none : (holds : Bool) (found : Doubt) → when holds found ≡ None → holds ≡ false
when-none true found e = absurd (some-none found e)
when-none false found e = refl

none-when : (holds : Bool) (found : Doubt) → holds ≡ false → when holds found ≡ None
none-when true found e = absurd (false≢true (sym e))
none-when false found e = refl

map-none : {X : Type 0} (f : X → Doubt) (found : Option X) → option_map f found ≡ None → found ≡ None
map-none f (Some x) e = absurd (some-none (f x) e)
map-none f None e = refl

none-map : {X : Type 0} (f : X → Doubt) (found : Option X) → found ≡ None → option_map f found ≡ None
none-map f (Some x) e = absurd (some-none x e)
none-map f None e = refl

-- what the cuts must be
pub record AreRight (side : OrderSide) (rows : List Usable) (most : ℕ) (cost : ℤ) (cuts : List Cut) : Type 0 where
  pub each_price : All (λ row. Any (λ cut. cut.price ≡ row.price) cuts) rows
  pub no_other : All (λ cut. Any (λ row. row.price ≡ cut.price) rows) cuts
  pub best_first : AllPairs (λ cut later. is_better side cut.price later.price ≡ true) cuts
  pub holds : All (λ cut. KindHolds rows most cost (rank_of side cut.price) cut.kind) cuts

cuts_right : (side : OrderSide) (rows : List Usable) (most : ℕ) (cost : ℤ) (cuts : List Cut) → cuts_doubt side rows most cost cuts ≡ None
    → AreRight side rows most cost cuts
unfolding some_lacks_cut some_is_extra some_is_wrong_kind some_is_out_of_range InOrder
cuts_right side rows most cost cuts none =
    let failing = option_map (λ cut. doubt.BoundFails cut) (first_failing side rows most cost cuts) in
    let a = or-none (when (some_lacks_cut rows cuts) doubt.CutMissing)
    (when (some_is_extra rows cuts || is_out_of_order side cuts) doubt.CutExtra or_else when (some_is_wrong_kind side rows most cuts)
    doubt.WrongKind or_else when (some_is_out_of_range cuts) doubt.MarginalRange or_else failing) none in
    let b = or-none (when (some_is_extra rows cuts || is_out_of_order side cuts) doubt.CutExtra)
    (when (some_is_wrong_kind side rows most cuts) doubt.WrongKind or_else when (some_is_out_of_range cuts) doubt.MarginalRange or_else
    failing) a.1 in
    let c = or-none (when (some_is_wrong_kind side rows most cuts) doubt.WrongKind)
    (when (some_is_out_of_range cuts) doubt.MarginalRange or_else failing) b.1 in
    let d = or-none (when (some_is_out_of_range cuts) doubt.MarginalRange) failing c.1 in
    let extra = or_parts (some_is_extra rows cuts) (is_out_of_order side cuts)
    (when-none (some_is_extra rows cuts || is_out_of_order side cuts) doubt.CutExtra b.0) in
    record {
      each_price = covered (λ (row : Usable). row.price) (λ (cut : Cut). cut.price) rows cuts
          (when-none (some_lacks_cut rows cuts) doubt.CutMissing a.0);
      no_other = covered (λ (cut : Cut). cut.price) (λ (row : Usable). row.price) cuts rows extra.0;
      best_first = in_order side cuts extra.1;
      holds = λ k x below. kind_holds rows most cost (rank_of side (get_or cuts k x).price) (get_or cuts k x).kind
          (all_fail (λ (cut : Cut). is_wrong_kind rows most (rank_of side cut.price) cut.kind) cuts
          (when-none (some_is_wrong_kind side rows most cuts) doubt.WrongKind c.0) k x below)
          (all_fail (λ (cut : Cut). is_out_of_range cut.kind) cuts (when-none (some_is_out_of_range cuts) doubt.MarginalRange d.0) k x
          below)
          (none_position (λ (cut : Cut). fails_bound rows most cost (rank_of side cut.price) cut.kind) cuts
          (map-none (λ cut. doubt.BoundFails cut) (first_failing side rows most cost cuts) d.1) k x below);
    }

right_cuts : (side : OrderSide) (rows : List Usable) (most : ℕ) (cost : ℤ) (cuts : List Cut) → AreRight side rows most cost cuts
    → cuts_doubt side rows most cost cuts ≡ None
unfolding some_lacks_cut some_is_extra some_is_wrong_kind some_is_out_of_range InOrder
right_cuts side rows most cost cuts right =
    let failing = option_map (λ cut. doubt.BoundFails cut) (first_failing side rows most cost cuts) in
    let each : (k : ℕ) (x : Cut) → k < length cuts
    → (is_wrong_kind rows most (rank_of side (get_or cuts k x).price) (get_or cuts k x).kind ≡ false)
    × (is_out_of_range (get_or cuts k x).kind ≡ false)
    × (fails_bound rows most cost (rank_of side (get_or cuts k x).price) (get_or cuts k x).kind ≡ false) =
    λ k x below. holds_kind rows most cost (rank_of side (get_or cuts k x).price) (get_or cuts k x).kind (right.holds k x below) in
    none-or (when (some_lacks_cut rows cuts) doubt.CutMissing)
    (when (some_is_extra rows cuts || is_out_of_order side cuts) doubt.CutExtra or_else when (some_is_wrong_kind side rows most cuts)
    doubt.WrongKind or_else when (some_is_out_of_range cuts) doubt.MarginalRange or_else failing)
    (none-when (some_lacks_cut rows cuts) doubt.CutMissing
    (covers (λ (row : Usable). row.price) (λ (cut : Cut). cut.price) rows cuts right.each_price))
    (none-or (when (some_is_extra rows cuts || is_out_of_order side cuts) doubt.CutExtra)
    (when (some_is_wrong_kind side rows most cuts) doubt.WrongKind or_else when (some_is_out_of_range cuts) doubt.MarginalRange or_else
    failing)
    (none-when (some_is_extra rows cuts || is_out_of_order side cuts) doubt.CutExtra
    (or_from (some_is_extra rows cuts) (is_out_of_order side cuts)
    (covers (λ (cut : Cut). cut.price) (λ (row : Usable). row.price) cuts rows right.no_other) (order_in side cuts right.best_first)))
    (none-or (when (some_is_wrong_kind side rows most cuts) doubt.WrongKind)
    (when (some_is_out_of_range cuts) doubt.MarginalRange or_else failing)
    (none-when (some_is_wrong_kind side rows most cuts) doubt.WrongKind
    (list_any_none (λ (cut : Cut). is_wrong_kind rows most (rank_of side cut.price) cut.kind) cuts (λ k x below. (each k x below).0)))
    (none-or (when (some_is_out_of_range cuts) doubt.MarginalRange) failing
    (none-when (some_is_out_of_range cuts) doubt.MarginalRange
    (list_any_none (λ (cut : Cut). is_out_of_range cut.kind) cuts (λ k x below. (each k x below).1)))
    (none-map (λ cut. doubt.BoundFails cut) (first_failing side rows most cost cuts)
    (sym (position_none (λ (cut : Cut). fails_bound rows most cost (rank_of side cut.price) cut.kind) cuts
    (λ k x below. (each k x below).2)))))))

-- ---- accepted

pub accepted_of_none : (seen : Seen) (asked : Terms) (fees : Charges) (plan : Plan) (cuts : List Cut)
    → (breach_of seen asked fees plan ≡ None → IsFaultless seen asked fees plan) → doubt_of seen asked fees plan cuts ≡ None
    → IsAccepted seen asked fees plan cuts
accepted_of_none seen asked fees plan cuts faultless none =
    let rows : List Usable = usable seen asked fees in
    let full = not (plan.filled == fillable rows asked.shares) in
    let rest = cuts_doubt asked.side rows (fillable rows asked.shares) plan.cost cuts in
    let a = or-none (option_map (λ breach. doubt.Breach breach) (breach_of seen asked fees plan)) (when full doubt.NotMost or_else rest)
    none in
    let b = or-none (when full doubt.NotMost) rest a.1 in
    let right = cuts_right asked.side rows (fillable rows asked.shares) plan.cost cuts b.1 in
    record {
      faultless = faultless (map-none (λ breach. doubt.Breach breach) (breach_of seen asked fees plan) a.0);
      full = eqb-true plan.filled (fillable rows asked.shares)
          (not-false (plan.filled == fillable rows asked.shares) (when-none full doubt.NotMost b.0));
      each_price = right.each_price;
      no_other = right.no_other;
      best_first = right.best_first;
      holds = right.holds;
    }

pub none_of_right : (seen : Seen) (asked : Terms) (fees : Charges) (plan : Plan) (cuts : List Cut)
    → breach_of seen asked fees plan ≡ None → plan.filled ≡ fillable (usable seen asked fees) asked.shares
    → AreRight asked.side (usable seen asked fees) (fillable (usable seen asked fees) asked.shares) plan.cost cuts
    → doubt_of seen asked fees plan cuts ≡ None
none_of_right seen asked fees plan cuts none filled right =
    let rows : List Usable = usable seen asked fees in
    let full = not (plan.filled == fillable rows asked.shares) in
    let rest = cuts_doubt asked.side rows (fillable rows asked.shares) plan.cost cuts in
    none-or (option_map (λ breach. doubt.Breach breach) (breach_of seen asked fees plan)) (when full doubt.NotMost or_else rest)
    (none-map (λ breach. doubt.Breach breach) (breach_of seen asked fees plan) none)
    (none-or (when full doubt.NotMost) rest
    (none-when full doubt.NotMost (not_from_true (plan.filled == fillable rows asked.shares)
    (eq-eqb plan.filled (fillable rows asked.shares) filled)))
    (right_cuts asked.side rows (fillable rows asked.shares) plan.cost cuts right))

pub none_of_accepted : (seen : Seen) (asked : Terms) (fees : Charges) (plan : Plan) (cuts : List Cut)
    → (IsFaultless seen asked fees plan → breach_of seen asked fees plan ≡ None) → IsAccepted seen asked fees plan cuts
    → doubt_of seen asked fees plan cuts ≡ None
none_of_accepted seen asked fees plan cuts faultless is =
    none_of_right seen asked fees plan cuts (faultless is.faultless) is.full
    (record { each_price = is.each_price; no_other = is.no_other; best_first = is.best_first; holds = is.holds })
