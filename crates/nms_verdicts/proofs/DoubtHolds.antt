-- The doubt that is reported holds by itself.
use Rattle.std.proofs.Common.{ℕ, ℤ, ◌≡◌, Bool, true, false, List, Option, Some, None, refl, ap, ◌∙◌}
use Rattle.std.specs.Prelude.{◌==◌, ◌||◌, IfSome, not, option_map}
use Rattle.nms_quote.specs.Terms.{Terms}
use Rattle.nms_quote.specs.declared.certificate.Cut.{Cut}
use Rattle.nms_quote.specs.declared.order.OrderSide.{OrderSide}
use Rattle.nms_quote.specs.declared.plan.Plan.{Plan}
use Rattle.nms_board.specs.View.{Seen}
use Rattle.nms_fee_book.specs.Fees.{Charges}
use Rattle.nms_rules.specs.Assignment.{fillable}
use Rattle.nms_rules.specs.Breach.{breach_of}
use Rattle.nms_rules.specs.First.{when, ◌or_else◌}
use Rattle.nms_rules.specs.Usable.{Usable, usable}
use Rattle.nms_rules.specs.declared.breach_kind.Breach.{Breach}
use Rattle.nms_cert.specs.Doubts.{breach_doubt, cuts_doubt, doubt_of, first_failing, is_out_of_order, some_is_extra, some_is_out_of_range}
use Rattle.nms_cert.specs.Doubts.{some_is_wrong_kind, some_lacks_cut}
use Rattle.nms_cert.specs.declared.doubt.Doubt.{Doubt}
use Rattle.nms_cert.specs.declared.doubt.Doubt.TheVariants as doubt
use Rattle.nms_verdicts.proofs.FirstLemmas.{map-holds, next-holds, or-holds, some-holds, when-holds, when-none}

-- the condition of each doubt of the cuts
abbrev pub CutHolds : OrderSide → List Usable → ℕ → ℤ → List Cut → Doubt → Type 0
CutHolds side rows most cost cuts (doubt.Breach why) = ⊥
CutHolds side rows most cost cuts doubt.NotMost = ⊥
CutHolds side rows most cost cuts doubt.CutMissing = some_lacks_cut rows cuts ≡ true
CutHolds side rows most cost cuts doubt.CutExtra = (some_is_extra rows cuts || is_out_of_order side cuts) ≡ true
CutHolds side rows most cost cuts doubt.WrongKind = some_is_wrong_kind side rows most cuts ≡ true
CutHolds side rows most cost cuts doubt.MarginalRange = some_is_out_of_range cuts ≡ true
CutHolds side rows most cost cuts (doubt.BoundFails cut) =
    (first_failing side rows most cost cuts ≡ Some cut) × (some_is_out_of_range cuts ≡ false)

each_cut_holds : (side : OrderSide) (rows : List Usable) (most : ℕ) (cost : ℤ) (cuts : List Cut)
    → IfSome (cuts_doubt side rows most cost cuts) (CutHolds side rows most cost cuts)
each_cut_holds side rows most cost cuts =
    let P : Doubt → Type 0 = CutHolds side rows most cost cuts in
    let failing : Option ℕ = first_failing side rows most cost cuts in
    let bound : Option Doubt = option_map (λ cut. doubt.BoundFails cut) failing in
    let range : Option Doubt = when (some_is_out_of_range cuts) doubt.MarginalRange in
    let ranged : Option Doubt = range or_else bound in
    let kind : Option Doubt = when (some_is_wrong_kind side rows most cuts) doubt.WrongKind or_else ranged in
    let extra : Option Doubt = when (some_is_extra rows cuts || is_out_of_order side cuts) doubt.CutExtra or_else kind in
    next-holds P (some_lacks_cut rows cuts) doubt.CutMissing extra (λ e. e)
    (next-holds P (some_is_extra rows cuts || is_out_of_order side cuts) doubt.CutExtra kind (λ e. e)
    (next-holds P (some_is_wrong_kind side rows most cuts) doubt.WrongKind ranged (λ e. e)
    (or-holds P range bound (when-holds P (some_is_out_of_range cuts) doubt.MarginalRange (λ e. e)) (λ none.
    map-holds P (λ (cut : ℕ). doubt.BoundFails cut) failing (λ cut is.
    (is, when-none (some_is_out_of_range cuts) doubt.MarginalRange none))))))

pub told_cut_holds : (side : OrderSide) (rows : List Usable) (most : ℕ) (cost : ℤ) (cuts : List Cut) (why : Doubt)
    → cuts_doubt side rows most cost cuts ≡ Some why → CutHolds side rows most cost cuts why
told_cut_holds side rows most cost cuts why is =
    some-holds (CutHolds side rows most cost cuts) (cuts_doubt side rows most cost cuts) why (each_cut_holds side rows most cost cuts) is

-- the doubt of the cuts of a plan
abbrev pub cuts_doubt_of : Seen → Terms → Charges → Plan → List Cut → Option Doubt
cuts_doubt_of seen order fees plan cuts =
    cuts_doubt order.side (usable seen order fees) (fillable (usable seen order fees) order.shares) plan.cost cuts

-- the condition of each doubt of a plan: a breach is the one reported, and a doubt of the cuts is only of the cuts
abbrev pub DoubtHolds : Seen → Terms → Charges → Plan → List Cut → Doubt → Type 0
DoubtHolds seen order fees plan cuts (doubt.Breach why) = breach_of seen order fees plan ≡ Some why
DoubtHolds seen order fees plan cuts doubt.NotMost = not (plan.filled == fillable (usable seen order fees) order.shares) ≡ true
DoubtHolds seen order fees plan cuts doubt.CutMissing = cuts_doubt_of seen order fees plan cuts ≡ Some doubt.CutMissing
DoubtHolds seen order fees plan cuts doubt.CutExtra = cuts_doubt_of seen order fees plan cuts ≡ Some doubt.CutExtra
DoubtHolds seen order fees plan cuts doubt.WrongKind = cuts_doubt_of seen order fees plan cuts ≡ Some doubt.WrongKind
DoubtHolds seen order fees plan cuts doubt.MarginalRange = cuts_doubt_of seen order fees plan cuts ≡ Some doubt.MarginalRange
DoubtHolds seen order fees plan cuts (doubt.BoundFails cut) = cuts_doubt_of seen order fees plan cuts ≡ Some (doubt.BoundFails cut)

of-cuts : (seen : Seen) (order : Terms) (fees : Charges) (plan : Plan) (cuts : List Cut) (found : Option Doubt)
    → cuts_doubt_of seen order fees plan cuts ≡ found
    → IfSome found (CutHolds order.side (usable seen order fees) (fillable (usable seen order fees) order.shares) plan.cost cuts)
    → IfSome found (DoubtHolds seen order fees plan cuts)
of-cuts seen order fees plan cuts None is holds = tt
of-cuts seen order fees plan cuts (Some (doubt.Breach why)) is holds = absurd holds
of-cuts seen order fees plan cuts (Some doubt.NotMost) is holds = absurd holds
of-cuts seen order fees plan cuts (Some doubt.CutMissing) is holds = is
of-cuts seen order fees plan cuts (Some doubt.CutExtra) is holds = is
of-cuts seen order fees plan cuts (Some doubt.WrongKind) is holds = is
of-cuts seen order fees plan cuts (Some doubt.MarginalRange) is holds = is
of-cuts seen order fees plan cuts (Some (doubt.BoundFails cut)) is holds = is

each_doubt_holds : (seen : Seen) (order : Terms) (fees : Charges) (plan : Plan) (cuts : List Cut)
    → IfSome (doubt_of seen order fees plan cuts) (DoubtHolds seen order fees plan cuts)
each_doubt_holds seen order fees plan cuts =
    let P : Doubt → Type 0 = DoubtHolds seen order fees plan cuts in
    let by_cuts : Option Doubt = cuts_doubt_of seen order fees plan cuts in
    let short : Bool = not (plan.filled == fillable (usable seen order fees) order.shares) in
    or-holds P (breach_doubt (breach_of seen order fees plan)) (when short doubt.NotMost or_else by_cuts)
    (map-holds P (λ (why : Breach). doubt.Breach why) (breach_of seen order fees plan) (λ why is. is)) (λ _.
    next-holds P short doubt.NotMost by_cuts (λ e. e)
    (of-cuts seen order fees plan cuts by_cuts refl
    (each_cut_holds order.side (usable seen order fees) (fillable (usable seen order fees) order.shares) plan.cost cuts)))

-- the doubt that is reported holds
pub told_doubt_holds : (seen : Seen) (order : Terms) (fees : Charges) (plan : Plan) (cuts : List Cut) (why which : Doubt)
    → doubt_of seen order fees plan cuts ≡ Some why → why ≡ which → DoubtHolds seen order fees plan cuts which
told_doubt_holds seen order fees plan cuts why which is same =
    some-holds (DoubtHolds seen order fees plan cuts) (doubt_of seen order fees plan cuts) which
    (each_doubt_holds seen order fees plan cuts) (is ∙ ap Some same)
