-- Access fees and their caps (17 CFR 242.610(c) as adopted in 2005, or as amended in 2024), and what a share costs with the
-- fees. Costs are by this product's own rule.
use Rattle.std.specs.Prelude.{ℕ, ℤ, pos, neg_ℤ, ◌+ℤ◌, ◌*ℤ◌, ◌≤ℤ◌, ◌*◌, nat_le, List, All, unwrap_or, slice_get, if◌then◌else◌}
use Rattle.nms_quote.specs.declared.order.OrderSide.{OrderSide}
use Rattle.nms_quote.specs.declared.order.OrderSide.TheVariants as side
use Rattle.nms_fee_book.specs.declared.TheConstants.{FEE_CAP_OF_2005, FEE_CAP_OF_2024, MOST_FEE, MOST_RATE, RATE_CAP_OF_2005}
use Rattle.nms_fee_book.specs.declared.TheConstants.{RATE_CAP_OF_2024}
use Rattle.nms_fee_book.specs.declared.caps.Caps.{Caps}
use Rattle.nms_fee_book.specs.declared.caps.Caps.TheVariants as caps
use Rattle.nms_fee_book.specs.declared.fee_schedule.FeeSchedule.{FeeSchedule}

-- the access fees of all participants, by place, and the caps that they keep
pub record Charges : Type 0 where
  pub caps : Caps
  pub schedules : List FeeSchedule

-- no fees at all
abbrev pub no_fees : FeeSchedule
no_fees = record { fee = pos 0; rate = pos 0 }

-- a participant's fees; a place without a participant has none
abbrev pub schedule_at : Charges → ℕ → FeeSchedule
schedule_at fees part = unwrap_or (slice_get fees.schedules part) no_fees

-- the fee for a share in nanodollars, at a price in 1/10,000 dollar: one dollar is 10,000
abbrev pub fee_at : FeeSchedule → ℕ → ℤ
fee_at schedule price = if nat_le 10000 price then schedule.fee else pos price *ℤ schedule.rate

-- what a share costs a buyer or a seller before fees, in nanodollars
abbrev pub price_on : OrderSide → ℕ → ℤ
price_on side.Buy price = pos (price * 100000)
price_on side.Sell price = neg_ℤ (pos (price * 100000))

-- what a share costs with fees, in nanodollars: negative if more is received than paid
abbrev pub unit_cost_of : Charges → ℕ → OrderSide → ℕ → ℤ
unit_cost_of fees part side price = price_on side price +ℤ fee_at (schedule_at fees part) price

-- the cap of a fee at one dollar or more, in nanodollars a share: $0.003, and $0.001 as amended
abbrev pub fee_cap : Caps → ℕ
fee_cap caps.Of2005 = FEE_CAP_OF_2005
fee_cap caps.Of2024 = FEE_CAP_OF_2024

-- the cap of a fee at a lower price, in hundred-thousandths of it: 0.3 percent, and 0.1 percent as amended
abbrev pub rate_cap : Caps → ℕ
rate_cap caps.Of2005 = RATE_CAP_OF_2005
rate_cap caps.Of2024 = RATE_CAP_OF_2024

-- no fee over its cap. Rebates have their own limits
pub record IsCapped (keeps : Caps) (schedule : FeeSchedule) : Type 0 where
  pub fee_low : neg_ℤ (pos MOST_FEE) ≤ℤ schedule.fee
  pub fee_cap : schedule.fee ≤ℤ pos (fee_cap keeps)
  pub rate_low : neg_ℤ (pos MOST_RATE) ≤ℤ schedule.rate
  pub rate_cap : schedule.rate ≤ℤ pos (rate_cap keeps)

-- no participant's fee is over its cap
abbrev pub AreCapped : Caps → List FeeSchedule → Type 0
AreCapped keeps fees = All (IsCapped keeps) fees
