-- The price in 1/10,000 dollar that decides for a price in 1/1,000,000 dollar.
use Rattle.std.proofs.Common.{◌≡◌, ◌<◌, ◌≤◌, ◌*◌, ◌+◌, ◌/◌, ◌∙◌, ℕ, nat_lt, arith, inl, inr, sym}
use Rattle.std.proofs.lemmas.Bool.{cases_lt, le-ltb, lt-ltb}

-- a bid
pub bid_decides : (price millionths : ℕ) → nat_lt (millionths / 100) price ≡ nat_lt millionths (price * 100)
bid_decides price millionths = elim (cases_lt millionths (price * 100)) [
  | inl less ↦
      let below : millionths / 100 < price = omega (arith, less) in
      lt-ltb (millionths / 100) price below ∙ sym (lt-ltb millionths (price * 100) less)
  | inr more ↦
      let above : price ≤ millionths / 100 = omega (arith, more) in
      le-ltb (millionths / 100) price above ∙ sym (le-ltb millionths (price * 100) more)
]

-- an offer
pub offer_decides : (price millionths : ℕ) → nat_lt price ((millionths + 99) / 100) ≡ nat_lt (price * 100) millionths
offer_decides price millionths = elim (cases_lt (price * 100) millionths) [
  | inl less ↦
      let below : price < (millionths + 99) / 100 = omega (arith, less) in
      lt-ltb price ((millionths + 99) / 100) below ∙ sym (lt-ltb (price * 100) millionths less)
  | inr more ↦
      let above : (millionths + 99) / 100 ≤ price = omega (arith, more) in
      le-ltb price ((millionths + 99) / 100) above ∙ sym (le-ltb (price * 100) millionths more)
]
