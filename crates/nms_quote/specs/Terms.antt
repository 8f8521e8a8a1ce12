-- What an order asks for.
use Rattle.std.specs.Prelude.{ℕ, Bool}
use Rattle.nms_quote.specs.declared.order.OrderSide.{OrderSide}

-- a side, a symbol, at least one share, the worst price in 1/10,000 dollar, whether manual quotations may be
-- traded with, and the set of participants named under self-help (17 CFR 242.611(b)(1))
pub record Terms : Type 0 where
  pub side : OrderSide
  pub sym : ℕ
  pub shares : ℕ
  pub limit : ℕ
  pub manual : Bool
  pub self_help : ℕ
