-- What makes a plan and its certificate doubtful. Each doubt says by itself when it holds; the first that holds is
-- reported. This product's own rule.
use Rattle.std.specs.Prelude.{ℕ, ℤ, pos, neg_ℤ, ◌+◌, ◌^◌, ◌==◌, ◌||◌, Bool, false, not, nat_le, nat_lt, List, [], ◌∷◌, Option, option_map}
use Rattle.std.specs.Prelude.{position}
use Rattle.std.specs.Int.RustNames.{int_lt}
use Rattle.std.specs.List.{list_any}
use Rattle.nms_quote.specs.Terms.{Terms}
use Rattle.nms_quote.specs.declared.certificate.Cut.{Cut}
use Rattle.nms_quote.specs.declared.certificate.CutKind.{CutKind}
use Rattle.nms_quote.specs.declared.certificate.CutKind.TheVariants.{TooMuch, TooLittle, Marginal}
use Rattle.nms_quote.specs.declared.order.OrderSide.{OrderSide}
use Rattle.nms_quote.specs.declared.plan.Plan.{Plan}
use Rattle.nms_board.specs.View.{Seen}
use Rattle.nms_fee_book.specs.Fees.{Charges}
use Rattle.nms_rules.specs.Assignment.{fillable}
use Rattle.nms_rules.specs.Breach.{breach_of}
use Rattle.nms_rules.specs.Cutoff.{least_cost, pool, swept}
use Rattle.nms_rules.specs.First.{when, ◌or_else◌}
use Rattle.nms_rules.specs.Usable.{Usable, is_better, rank_of, usable}
use Rattle.nms_rules.specs.declared.breach_kind.Breach.{Breach}
use Rattle.nms_cert.specs.declared.doubt.Doubt.{Doubt}
use Rattle.nms_cert.specs.declared.doubt.Doubt.TheVariants as doubt

-- ---- the prices of the cuts

abbrev pub has_cut : List Cut → ℕ → Bool
has_cut cuts price = list_any (λ cut. cut.price == price) cuts

abbrev pub has_row : List Usable → ℕ → Bool
has_row rows price = list_any (λ row. row.price == price) rows

-- some usable price has no cut
unfoldable pub some_lacks_cut : List Usable → List Cut → Bool
some_lacks_cut rows cuts = list_any (λ row. not (has_cut cuts row.price)) rows

-- some cut is at no usable price
unfoldable pub some_is_extra : List Usable → List Cut → Bool
some_is_extra rows cuts = list_any (λ cut. not (has_row rows cut.price)) cuts

-- some cut is at a price that this one is not better than
abbrev pub is_not_better : OrderSide → ℕ → List Cut → Bool
is_not_better side price cuts = list_any (λ cut. not (is_better side price cut.price)) cuts

-- some cut is not at a better price than one after it
unfoldable pub is_out_of_order : OrderSide → List Cut → Bool
is_out_of_order side [] = false
is_out_of_order side (cut ∷ later) = is_not_better side cut.price later || is_out_of_order side later

-- ---- what the cuts say

-- a cut says what the sums at its cutoff deny
abbrev pub is_wrong_kind : List Usable → ℕ → ℤ → CutKind → Bool
is_wrong_kind rows most cutoff TooMuch = nat_le (swept cutoff rows) most
is_wrong_kind rows most cutoff TooLittle = nat_le most (swept cutoff rows + pool cutoff rows)
is_wrong_kind rows most cutoff (Marginal marginal) = nat_lt most (swept cutoff rows)

-- a marginal beyond 10^18 either way
abbrev pub is_out_of_range : CutKind → Bool
is_out_of_range TooMuch = false
is_out_of_range TooLittle = false
is_out_of_range (Marginal marginal) = int_lt marginal (neg_ℤ (pos (10 ^ 18))) || int_lt (pos (10 ^ 18)) marginal

-- a marginal by which a plan might cost less
abbrev pub fails_bound : List Usable → ℕ → ℤ → ℤ → CutKind → Bool
fails_bound rows most cost cutoff TooMuch = false
fails_bound rows most cost cutoff TooLittle = false
fails_bound rows most cost cutoff (Marginal marginal) = int_lt (least_cost rows most cutoff marginal) cost

unfoldable pub some_is_wrong_kind : OrderSide → List Usable → ℕ → List Cut → Bool
some_is_wrong_kind side rows most cuts = list_any (λ cut. is_wrong_kind rows most (rank_of side cut.price) cut.kind) cuts

unfoldable pub some_is_out_of_range : List Cut → Bool
some_is_out_of_range cuts = list_any (λ cut. is_out_of_range cut.kind) cuts

-- the first cut whose bound fails, counted from 0
abbrev pub first_failing : OrderSide → List Usable → ℕ → ℤ → List Cut → Option ℕ
first_failing side rows most cost cuts = position (λ cut. fails_bound rows most cost (rank_of side cut.price) cut.kind) cuts

-- ---- the first that holds

-- what is doubtful of the cuts, if n shares can be filled and the plan costs that much
abbrev pub cuts_doubt : OrderSide → List Usable → ℕ → ℤ → List Cut → Option Doubt
cuts_doubt side rows most cost cuts =
    when (some_lacks_cut rows cuts) doubt.CutMissing
    or_else when (some_is_extra rows cuts || is_out_of_order side cuts) doubt.CutExtra
    or_else when (some_is_wrong_kind side rows most cuts) doubt.WrongKind
    or_else when (some_is_out_of_range cuts) doubt.MarginalRange
    or_else option_map (λ cut. doubt.BoundFails cut) (first_failing side rows most cost cuts)

-- what breaks a plan makes it doubtful
abbrev pub breach_doubt : Option Breach → Option Doubt
breach_doubt found = option_map (λ breach. doubt.Breach breach) found

-- the first doubt of a plan and its cuts; none if nothing is doubtful
abbrev pub doubt_of : Seen → Terms → Charges → Plan → List Cut → Option Doubt
doubt_of seen order fees plan cuts =
    breach_doubt (breach_of seen order fees plan)
    or_else when (not (plan.filled == fillable (usable seen order fees) order.shares)) doubt.NotMost
    or_else cuts_doubt order.side (usable seen order fees) (fillable (usable seen order fees) order.shares) plan.cost cuts
