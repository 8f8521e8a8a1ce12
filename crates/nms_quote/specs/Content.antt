-- What a participant quotes on one side of a symbol.
use Rattle.std.specs.Prelude.{ℕ}

-- a price in 1/10,000 dollar, and the shares that its message gives
pub record Content : Type 0 where
  pub price : ℕ
  pub shares : ℕ
