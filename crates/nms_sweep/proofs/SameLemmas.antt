-- What can be filled, what is chosen and how the legs are, are the same in any order of the rows.
use Rattle.std.proofs.Common.{ℕ, ◌≡◌, ◌-◌, List, [], ◌∷◌, Option, Some, None, refl, ap, ◌∙◌, min}
use Rattle.std.specs.Prelude.{ℤ}
use Rattle.std.specs.List.Sorted.{IsPermutation}
use Rattle.nms_quote.specs.declared.certificate.Cut.{Cut}
use Rattle.nms_quote.specs.declared.certificate.CutKind.{CutKind}
use Rattle.nms_quote.specs.declared.certificate.CutKind.TheVariants.{TooMuch, TooLittle, Marginal}
use Rattle.nms_quote.specs.declared.order.OrderSide.{OrderSide}
use Rattle.nms_rules.specs.Assignment.{fillable}
use Rattle.nms_rules.specs.Cutoff.{least_cost, savings_part, swept, swept_cost_part, swept_part}
use Rattle.nms_rules.specs.Usable.{Usable, rank_of}
use Rattle.nms_sweep.specs.Choice.{below, below_part, candidate, cheaper, chosen, legs_chosen, legs_of}
use Rattle.nms_sweep.specs.declared.choice.Choice.{Choice}
use Rattle.nms_sweep.proofs.TotalLemmas.{amount_same, total_same}

pub fillable_same : (one other : List Usable) → IsPermutation one other → (asked : ℕ) → fillable other asked ≡ fillable one asked
fillable_same one other same asked = ap (min asked) (total_same (λ (row : Usable). row.size) one other same)

least-same : (one other : List Usable) → IsPermutation one other → (most : ℕ) (cutoff marginal : ℤ)
    → least_cost other most cutoff marginal ≡ least_cost one most cutoff marginal
least-same one other same most cutoff marginal =
    rw (
      total_same (swept_part cutoff) one other same,
      amount_same (swept_cost_part cutoff) one other same,
      amount_same (savings_part cutoff marginal) one other same,
    ) refl

candidate-same : (one other : List Usable) → IsPermutation one other → (most : ℕ) (cutoff : ℤ) (kind : CutKind)
    → candidate other most cutoff kind ≡ candidate one most cutoff kind
candidate-same one other same most cutoff TooMuch = refl
candidate-same one other same most cutoff TooLittle = refl
candidate-same one other same most cutoff (Marginal marginal) = rw (least-same one other same most cutoff marginal) refl

pub chosen_same : (side : OrderSide) (one other : List Usable) → IsPermutation one other
    → (most : ℕ) (best : Option Choice) (cuts : List Cut) → chosen side other most best cuts ≡ chosen side one most best cuts
unfolding chosen
chosen_same side one other same most best [] = refl
chosen_same side one other same most best (cut ∷ cuts) =
    ap (λ (offer : Option Choice). chosen side other most (cheaper best offer) cuts)
    (candidate-same one other same most (rank_of side cut.price) cut.kind)
    ∙ chosen_same side one other same most (cheaper best (candidate one most (rank_of side cut.price) cut.kind)) cuts

pub legs_same : (one other : List Usable) → IsPermutation one other → (most : ℕ) (found : Option Choice)
    → legs_chosen other most found other ≡ legs_chosen one most found other
legs_same one other same most None = refl
legs_same one other same most (Some choice) =
    ap (λ n. legs_of choice.cutoff choice.marginal (most - n - below choice.cutoff choice.marginal other) other)
    (total_same (swept_part choice.cutoff) one other same)
    ∙ ap (λ n. legs_of choice.cutoff choice.marginal (most - swept choice.cutoff one - n) other)
    (total_same (below_part choice.cutoff choice.marginal) one other same)
