-- A plan that is accepted fits its text.
use Rattle.std.proofs.Common.{ℕ, ◌≡◌, ◌<◌, ◌≤◌, ◌+◌, List, [], ◌∷◌, ◌++◌, length, take, get_or, ap, sym, ◌∙◌, subst, arith}
use Rattle.std.specs.Prelude.{All}
use Rattle.std.proofs.lemmas.Int.{ints}
use Rattle.std.proofs.lemmas.List.{take_more}
use Rattle.std.proofs.lemmas.List.Elements.{All-append, All-cons, All-nil}
use Rattle.nms_units.specs.declared.TheConstants.{MOST_SHARES}
use Rattle.nms_quote.specs.Roster.{Listing, sizes_of}
use Rattle.nms_quote.specs.Tape.{Tape}
use Rattle.nms_quote.specs.Terms.{Terms}
use Rattle.nms_quote.specs.declared.TheConstants.{MOST_CHANGES}
use Rattle.nms_quote.specs.declared.certificate.Cut.{Cut}
use Rattle.nms_quote.specs.declared.certificate.CutKind.{CutKind}
use Rattle.nms_quote.specs.declared.certificate.CutKind.TheVariants as kind
use Rattle.nms_quote.specs.declared.plan.Plan.{Plan}
use Rattle.nms_lines.specs.Named.{AreBelow}
use Rattle.nms_lines.specs.PlanLaws.{FitsText, IsKindInRange, IsPriceInRange}
use Rattle.nms_board.specs.View.{Seen, view_of}
use Rattle.nms_board.proofs.Offered.{view_parts}
use Rattle.nms_fee_book.specs.Fees.{Charges}
use Rattle.nms_rules.specs.Accepted.{IsAccepted}
use Rattle.nms_rules.specs.Usable.{contra}
use Rattle.nms_sweep.specs.Bounds.{IsWithinBounds}
use Rattle.nms_sweep.specs.Choice.{IsInRange}
use Rattle.nms_file_answers.proofs.LegFacts.{legs_parts}

-- what holds of the first, and of one more
pub all_more : {X : Type 0} (P : X → Type 0) (xs : List X) (i : ℕ) (x : X) → i < length xs → x ≡ get_or xs i x → All P (take i xs) → P x
    → All P (take (i + 1) xs)
all_more {X} P xs i x within is all holds =
    subst (All P) (sym (take_more xs i x within ∙ ap (λ (one : X). take i xs ++ one ∷ []) (sym is)))
    (All-append P (take i xs) (x ∷ []) all (All-cons P x [] holds (All-nil P)))

-- what the types of an order, a plan and a certificate say of them
pub record AreTyped (asked : Terms) (plan : Plan) (cuts : List Cut) : Type 0 where
  pub some : 1 ≤ asked.shares
  pub shares : asked.shares ≤ MOST_SHARES
  pub limit : IsPriceInRange asked.limit
  pub legs : All (λ leg. IsPriceInRange leg.price × (leg.shares ≤ MOST_SHARES)) plan.legs.items
  pub few_legs : length plan.legs.items ≤ 32
  pub prices : All (λ cut. IsPriceInRange cut.price) cuts
  pub few_cuts : length cuts ≤ 32

kind_fits : (kind : CutKind) → IsInRange kind → IsKindInRange kind
kind_fits kind.TooMuch range = tt
kind_fits kind.TooLittle range = tt
kind_fits (kind.Marginal money) range = (omega (arith, ints, range.0), omega (arith, ints, range.1))

pub fits_text : (roster : Listing) (tape : Tape) (asked : Terms) (fees : Charges) (plan : Plan) (cuts : List Cut)
    → length tape ≤ MOST_CHANGES → asked.sym < length roster.syms
    → AreBelow (length roster.parts) asked.self_help → AreTyped asked plan cuts → IsWithinBounds plan cuts
    → IsAccepted (view_of (sizes_of roster) tape asked.sym) asked fees plan cuts → FitsText roster plan cuts
fits_text roster tape asked fees plan cuts few there named typed bounds is =
    let seen : Seen = view_of (sizes_of roster) tape asked.sym in
    let same : asked ≡ plan.order = sym is.faultless.order in
    let parts = legs_parts (length roster.parts) (contra asked.side) seen plan.legs.items is.faultless.prices
    (λ side. view_parts (sizes_of roster) tape asked.sym side) in
    record {
      version = omega (arith, is.faultless.version, few);
      sym = subst (λ (order : Terms). order.sym < length roster.syms) same there;
      some = subst (λ (order : Terms). 1 ≤ order.shares) same typed.some;
      shares = subst (λ (order : Terms). order.shares ≤ MOST_SHARES) same typed.shares;
      self_help = subst (λ (order : Terms). AreBelow (length roster.parts) order.self_help) same named;
      limit = subst (λ (order : Terms). IsPriceInRange order.limit) same typed.limit;
      filled = bounds.filled;
      cost = (omega (arith, ints, bounds.low, bounds.filled), omega (arith, ints, bounds.high, bounds.filled));
      legs = λ i d below. (parts i d below, (typed.legs i d below).0, (typed.legs i d below).1);
      few_legs = typed.few_legs;
      cuts = λ i d below. (typed.prices i d below, kind_fits (get_or cuts i d).kind (bounds.marginals i d below));
      few_cuts = typed.few_cuts;
    }
