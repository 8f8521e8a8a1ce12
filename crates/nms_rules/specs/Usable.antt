-- The quotations that an order may trade with, and how shares are spread over them. A buyer trades with offers and a
-- seller with bids, at the limit or better (17 CFR 242.600, "intermarket sweep order"). Quotations of participants that
-- an order names under self-help are passed over (17 CFR 242.611(b)(1)). A manual quotation may be used if the order
-- says so: this is this product's own rule.
use Rattle.std.specs.Prelude.{ℕ, ℤ, pos, neg_ℤ, ◌&&◌, ◌||◌, Bool, not, List, filter, map}
use Rattle.nms_quote.specs.Members.{has_part}
use Rattle.nms_quote.specs.Terms.{Terms}
use Rattle.nms_quote.specs.declared.order.OrderSide.{OrderSide}
use Rattle.nms_quote.specs.declared.order.OrderSide.TheVariants.{Buy, Sell}
use Rattle.nms_quote.specs.declared.side_quote.Side.{Side}
use Rattle.nms_quote.specs.declared.side_quote.Side.TheVariants.{Bid, Offer}
use Rattle.nms_board.specs.Ranking.{better_price}
use Rattle.nms_board.specs.View.{Seen, rows_on}
use Rattle.nms_board.specs.declared.row.Row.{Row}
use Rattle.nms_fee_book.specs.Fees.{Charges, unit_cost_of}

-- the side that an order trades with
abbrev pub contra : OrderSide → Side
contra Buy = Offer
contra Sell = Bid

abbrev pub contra_rows : OrderSide → Seen → List Row
contra_rows side seen = rows_on (contra side) seen

-- whether one price is better for the order than another
abbrev pub is_better : OrderSide → ℕ → ℕ → Bool
is_better side price other = better_price (contra side) price other

-- a price's rank for the order: the lower, the better
abbrev pub rank_of : OrderSide → ℕ → ℤ
rank_of Buy price = pos price
rank_of Sell price = neg_ℤ (pos price)

-- a quotation of a participant that the order names under self-help
abbrev pub is_named : Terms → Row → Bool
is_named order row = has_part order.self_help row.part

-- a quotation that the order may trade with, apart from its price: its participant is not named, and it is protected,
-- or manual if allowed
-- if allowed
abbrev pub is_allowed : Terms → Row → Bool
is_allowed order row = not (is_named order row) && (row.protected || order.manual)

-- a quotation that is swept before a worse price is traded: a protected one of a participant that is not named
abbrev pub is_binding : Terms → Row → Bool
is_binding order row = not (is_named order row) && row.protected

-- and at its price: not beyond the limit
abbrev pub is_usable : Terms → Row → Bool
is_usable order row = is_allowed order row && not (is_better order.side order.limit row.price)

-- a usable row with its rank, and what a share costs there with the fee
pub record Usable : Type 0 where
  pub part : ℕ
  pub rank : ℤ
  pub price : ℕ
  pub size : ℕ
  pub protected : Bool
  pub cost : ℤ

abbrev pub usable_row : Terms → Charges → Row → Usable
usable_row order fees row = record {
  part = row.part;
  rank = rank_of order.side row.price;
  price = row.price;
  size = row.size;
  protected = row.protected;
  cost = unit_cost_of fees row.part order.side row.price;
}

-- the usable rows, by participant place
abbrev pub usable : Seen → Terms → Charges → List Usable
usable seen order fees = map (usable_row order fees) (filter (is_usable order) (contra_rows order.side seen))
