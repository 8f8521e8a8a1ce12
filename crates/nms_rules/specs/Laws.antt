-- The laws above plans. Those of lawful plans are in the words of 17 CFR 242.600, "trade-through" and "intermarket sweep
-- order", and 242.611(a), (b)(5) and (6). A plan's price may trade through a protected quotation on the side that the
-- order trades with: then the plan also sweeps that quotation. In a crossed market the other side is not looked at: the
-- exception for crossed markets, 242.611(b)(4), is not part of this product. Quotations of participants that the order
-- names are not looked at either: self-help, 242.611(b)(1).
use Rattle.std.specs.Prelude.{ℕ, ◌≡◌, ◌≢◌, ◌≤◌, ◌≤ℤ◌, ◌&&◌, ◌||◌, Bool, false, not, None, List, All, filter, map}
use Rattle.nms_quote.specs.Members.{has_part, nobody, with_part}
use Rattle.nms_quote.specs.Terms.{Terms}
use Rattle.nms_quote.specs.declared.certificate.Cut.{Cut}
use Rattle.nms_quote.specs.declared.plan.Leg.{Leg}
use Rattle.nms_quote.specs.declared.plan.Plan.{Plan}
use Rattle.nms_board.specs.View.{AreRows, Seen}
use Rattle.nms_board.specs.declared.row.Row.{Row}
use Rattle.nms_fee_book.specs.Fees.{Charges}
use Rattle.nms_rules.specs.Accepted.{IsAccepted}
use Rattle.nms_rules.specs.Assignment.{IsOptimal}
use Rattle.nms_rules.specs.Breach.{breach_of}
use Rattle.nms_rules.specs.Faultless.{IsFaultless, given_by}
use Rattle.nms_rules.specs.Through.{traded_through_at}
use Rattle.nms_rules.specs.Usable.{contra, contra_rows, is_better, is_binding, is_named, is_usable, usable, usable_row}

-- the limit is not better than the price
abbrev pub KeepsLimit : Terms → ℕ → Type 0
KeepsLimit order price = is_better order.side order.limit price ≡ false

-- each quotation that a trade at the price would trade through gets its full size: those on the side that the order
-- trades with, of participants that it does not name
abbrev pub SweepsThroughOnItsSide : Seen → Terms → List Leg → ℕ → Type 0
SweepsThroughOnItsSide seen order legs price =
    All (λ found. found.0 ≡ contra order.side → is_named order found.1 ≡ false → found.1.size ≤ given_by legs found.1.part)
    (traded_through_at seen price)

-- each price keeps the limit, and the plan sweeps each protected quotation on the side that it trades with that a price
-- would trade through, except those of participants that its order names
abbrev pub NeverTradesThrough : Seen → Terms → List Leg → Type 0
NeverTradesThrough seen order legs = All (λ leg. KeepsLimit order leg.price × SweepsThroughOnItsSide seen order legs leg.price) legs

-- this holds of each plan that has no breach
abbrev pub LawfulPlansNeverTradeThrough : Type 0
LawfulPlansNeverTradeThrough =
    (seen : Seen) (order : Terms) (fees : Charges) (plan : Plan)
    → breach_of seen order fees plan ≡ None → NeverTradesThrough seen order plan.legs.items

-- a plan that has no breach sends nothing to a participant that its order names
abbrev pub LawfulPlansPassOverTheNamed : Type 0
LawfulPlansPassOverTheNamed =
    (seen : Seen) (order : Terms) (fees : Charges) (plan : Plan)
    → breach_of seen order fees plan ≡ None → All (λ leg. has_part order.self_help leg.part ≡ false) plan.legs.items

-- a row of a view within the limit, protected, or manual if the order allows it: no name is looked at
abbrev pub is_usable_by_state : Terms → Row → Bool
is_usable_by_state order row = (row.protected || order.manual) && not (is_better order.side order.limit row.price)

-- an order that names no participant may trade with these rows, and has to sweep the protected ones
pub record NamesNobody (seen : Seen) (order : Terms) (fees : Charges) : Type 0 where
  pub usable : usable seen order fees ≡ map (usable_row order fees) (filter (is_usable_by_state order) (contra_rows order.side seen))
  pub binding : (row : Row) → is_binding order row ≡ row.protected

abbrev pub NamingNobodyChangesNothing : Type 0
NamingNobodyChangesNothing = (seen : Seen) (order : Terms) (fees : Charges) → order.self_help ≡ nobody → NamesNobody seen order fees

-- an order that names one participant more
abbrev pub naming : Terms → ℕ → Terms
naming order part = record {
  side = order.side;
  sym = order.sym;
  shares = order.shares;
  limit = order.limit;
  manual = order.manual;
  self_help = with_part order.self_help part;
}

-- quotations of the added participant are neither traded with nor swept, and all other quotations stay as they were
pub record NamesOneMore (order : Terms) (part : ℕ) (row : Row) : Type 0 where
  pub own : row.part ≡ part → (is_usable (naming order part) row ≡ false) × (is_binding (naming order part) row ≡ false)
  pub other : row.part ≢ part → (is_usable (naming order part) row ≡ is_usable order row)
      × (is_binding (naming order part) row ≡ is_binding order row)

abbrev pub NamingOneLeavesTheOthers : Type 0
NamingOneLeavesTheOthers = (order : Terms) (part : ℕ) (row : Row) → NamesOneMore order part row

-- a plan that is accepted with its cuts is an optimal way to spread shares over the usable rows, whatever the plan's
-- source (this product's own rule)
abbrev pub AcceptedPlansAreOptimal : Type 0
AcceptedPlansAreOptimal =
    (seen : Seen) (order : Terms) (fees : Charges) (plan : Plan) (cuts : List Cut)
    → AreRows seen.bids → AreRows seen.offers → IsAccepted seen order fees plan cuts
    → IsOptimal (usable seen order fees) order.shares (given_by plan.legs.items)

-- a lawful plan for an order on a view: no lawful one fills more, and none that fills as much costs less with fees
pub record IsBestPlan (seen : Seen) (order : Terms) (fees : Charges) (plan : Plan) : Type 0 where
  pub lawful : IsFaultless seen order fees plan
  pub most : (other : Plan) → IsFaultless seen order fees other → other.filled ≤ plan.filled
  pub cheapest : (other : Plan) → IsFaultless seen order fees other → other.filled ≡ plan.filled → plan.cost ≤ℤ other.cost

-- this holds of each plan that is accepted with its cuts (this product's own rule)
abbrev pub AcceptedPlansAreBest : Type 0
AcceptedPlansAreBest =
    (seen : Seen) (order : Terms) (fees : Charges) (plan : Plan) (cuts : List Cut)
    → AreRows seen.bids → AreRows seen.offers → IsAccepted seen order fees plan cuts → IsBestPlan seen order fees plan
