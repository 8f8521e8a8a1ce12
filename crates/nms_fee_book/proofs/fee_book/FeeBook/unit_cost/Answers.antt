-- `FeeBook::unit_cost`: clause `cost`.
use Rattle.std.proofs.Common.{ℤ, pos, negsuc, ◌≡◌, ◌+ℤ◌, ◌≤ℤ◌, arith, ◌∙◌, to_z, of_z}
use Rattle.std.proofs.lemmas.Int.{ints}
use Rattle.std.specs.Int.{w128}
use Rattle.nms_fee_book.proofs.fee_book.FeeBook.unit_cost.Goals as goal

-- the sum fits
sum_kept : (cost price fee price_read fee_read : ℤ) → price_read ≡ price → fee_read ≡ fee → negsuc 9999999999999999 ≤ℤ price
    → price ≤ℤ pos 10000000000000000 → negsuc 9999999 ≤ℤ fee → fee ≤ℤ pos 10000000
    → cost ≡ to_z w128 (of_z w128 (to_z w128 (of_z w128 price_read) +ℤ to_z w128 (of_z w128 fee_read))) → cost ≡ price +ℤ fee
sum_kept cost price fee price_read fee_read p f low high fee_low fee_high e = omega (arith, ints)

pub returns-clause-cost : goal.returns-clause-cost
returns-clause-cost c =
    let sum = sum_kept c.new.result c.price_for.result c.fee.result c.get.result c.get-fee.result c.get.ensures c.get-fee.ensures
    c.price_for.ensures.low c.price_for.ensures.high c.fee.ensures.low c.fee.ensures.high c.new.ensures in
    sum ∙ rw (c.price_for.ensures.price, c.fee.ensures.fee)
