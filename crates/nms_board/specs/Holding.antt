-- One side of a participant in a symbol, as a board holds it. This product's own rule.
use Rattle.std.specs.Prelude.{ℕ, zero, suc, ◌≡◌, ◌==◌, Option, Some, None, if◌then◌else◌}
use Rattle.std.proofs.Common.{refl, sym}
use Rattle.std.proofs.Math.Dec.{eqb-suc-zero}
use Rattle.nms_quote.specs.Content.{Content}

-- what is quoted, and the number of the change that last altered it: 0 if none did
pub record Holding : Type 0 where
  pub quote : Option Content
  pub receipt : ℕ

-- the quote of a price and shares; 0 shares mean no quote
abbrev pub quote_of : ℕ → ℕ → Option Content
quote_of price shares = if shares == 0 then None else Some (record { price = price; shares = shares })

-- the price of a quote, and 1 if there is none
abbrev pub price_of : Option Content → ℕ
price_of None = 1
price_of (Some content) = content.price

-- the shares of a quote, and 0 if there is none
abbrev pub shares_of : Option Content → ℕ
shares_of None = 0
shares_of (Some content) = content.shares

-- a quote has the price and the shares that it was made of; with no quote the price is 1
pub price_back : (price shares : ℕ) → (shares ≡ 0 → price ≡ 1) → price_of (quote_of price shares) ≡ price
price_back price zero h = sym (h refl)
price_back price (suc n) h = rw (eqb-suc-zero n) refl

pub shares_back : (price shares : ℕ) → shares_of (quote_of price shares) ≡ shares
shares_back price zero = refl
shares_back price (suc n) = rw (eqb-suc-zero n) refl
