-- `FeeBook::fee`: its clauses at a price below one dollar, where the fee is a product of a rate of at most `MOST_RATE`.
use Rattle.std.proofs.Common.{ℕ, ℤ, pos, negsuc, neg_ℤ, unsigned_abs, ◌≡◌, ◌<◌, ◌≤◌, ◌*ℤ◌, ◌≤ℤ◌, nat_le, false, arith}
use Rattle.std.proofs.lemmas.Grind.{common_steps}
use Rattle.std.proofs.Common.{ap, sym, subst, ◌∙◌, to_z, of_z}
use Rattle.std.proofs.lemmas.Bool.{cond-false}
use Rattle.std.proofs.lemmas.Int.{ints, unsigned_abs-mul}
use Rattle.std.proofs.lemmas.Nat.{mul-le}
use Rattle.std.proofs.Math.IntN.{*ℤ_comm}
use Rattle.std.specs.Int.{w64, w128}
use Rattle.nms_fee_book.specs.Fees.{fee_at, rate_cap, IsCapped}
use Rattle.nms_fee_book.specs.declared.TheConstants.{MOST_FEE, MOST_RATE}
use Rattle.nms_fee_book.specs.declared.fee_book.TheConstants.{ONE_DOLLAR}
use Rattle.nms_fee_book.specs.declared.caps.Caps.{Caps}
use Rattle.nms_fee_book.specs.declared.caps.Caps.TheVariants as caps
use Rattle.nms_fee_book.specs.declared.fee_schedule.FeeSchedule.{FeeSchedule}
use Rattle.nms_fee_book.proofs.fee_book.FeeBook.fee.Goals as goal

-- no cap of rates is over the greatest rate
rate_high : (keeps : Caps) → rate_cap keeps ≤ MOST_RATE
rate_high caps.Of2005 = omega arith
rate_high caps.Of2024 = omega arith

rate_within : (rate : ℤ) (cap : ℕ) → rate ≤ℤ pos cap → cap ≤ MOST_RATE → rate ≤ℤ pos MOST_RATE
rate_within rate cap high most = omega (arith, ints)

size_of_rate : (rate : ℤ) → neg_ℤ (pos MOST_RATE) ≤ℤ rate → rate ≤ℤ pos MOST_RATE → unsigned_abs rate ≤ MOST_RATE
size_of_rate (pos n) low high = omega (arith, ints)
size_of_rate (negsuc n) low high = omega (arith, ints)

-- a number of such a size
of_size : (z : ℤ) → unsigned_abs z ≤ MOST_FEE → (neg_ℤ (pos MOST_FEE) ≤ℤ z) × (z ≤ℤ pos MOST_FEE)
of_size (pos n) size = (omega (arith, ints), omega (arith, ints))
of_size (negsuc n) size = (omega (arith, ints), omega (arith, ints))

-- the fee of a capped schedule at a price below one dollar
bounds : (keeps : Caps) (schedule : FeeSchedule) (price : ℕ) → IsCapped keeps schedule → price < ONE_DOLLAR
    → (neg_ℤ (pos MOST_FEE) ≤ℤ (schedule.rate *ℤ pos price)) × ((schedule.rate *ℤ pos price) ≤ℤ pos MOST_FEE)
bounds keeps schedule price capped cheap =
    let rate = size_of_rate schedule.rate capped.rate_low
    (rate_within schedule.rate (rate_cap keeps) capped.rate_cap (rate_high keeps)) in
    let most = mul-le (unsigned_abs schedule.rate) price MOST_RATE ONE_DOLLAR rate (omega arith) in
    of_size (schedule.rate *ℤ pos price) (rw (unsigned_abs-mul schedule.rate (pos price)) most)

-- the computed product is that of the rate and the price that were read
product : (rate wide new result : ℤ) (price read : ℕ) → wide ≡ to_z w64 (of_z w64 rate) → new ≡ to_z w128 (of_z w128 wide)
    → neg_ℤ (pos MOST_RATE) ≤ℤ rate → rate ≤ℤ pos MOST_RATE → read ≡ price → result ≡ new *ℤ pos read → result ≡ rate *ℤ pos price
product rate wide new result price read w n low high same is =
    let given : new ≡ rate = omega (arith, ints) in
    is ∙ (λ i. given i *ℤ pos (same i))

fee_below : (schedule : FeeSchedule) (price : ℕ) → price < ONE_DOLLAR → schedule.rate *ℤ pos price ≡ fee_at schedule price
fee_below schedule price cheap =
    let is : nat_le ONE_DOLLAR price ≡ false = grind arith in
    *ℤ_comm schedule.rate (pos price) ∙ sym (cond-false (nat_le ONE_DOLLAR price) schedule.fee (pos price *ℤ schedule.rate) is)

cheap : (c : goal.After-times) → c.args.price < ONE_DOLLAR
cheap c = subst (λ n. n < ONE_DOLLAR) c.get.ensures.number c.if-get-ge-ONE_DOLLAR.false

product_of : (c : goal.After-times) → c.times.result ≡ c.schedule-schedule.result.rate *ℤ pos c.args.price
product_of c =
    let capped = c.schedule-schedule.ensures.capped in
    product c.schedule-schedule.result.rate _ _ c.times.result c.args.price _ c.from-else-get-ge-ONE_DOLLAR.ensures
    c.new-else-get-ge-ONE_DOLLAR.ensures capped.rate_low
    (rate_within c.schedule-schedule.result.rate _ capped.rate_cap (rate_high c.args.self.now.caps))
    c.get-else-get-ge-ONE_DOLLAR.ensures.number c.times.ensures.product

pub returns-else-get-ge-ONE_DOLLAR-clause-fee : goal.returns-else-get-ge-ONE_DOLLAR-clause-fee
returns-else-get-ge-ONE_DOLLAR-clause-fee c =
    product_of c ∙ fee_below c.schedule-schedule.result c.args.price (cheap c)
    ∙ ap (λ (schedule : FeeSchedule). fee_at schedule c.args.price) c.schedule-schedule.ensures.value

pub returns-else-get-ge-ONE_DOLLAR-clause-low : goal.returns-else-get-ge-ONE_DOLLAR-clause-low
returns-else-get-ge-ONE_DOLLAR-clause-low c =
    rw (product_of c) (bounds c.args.self.now.caps c.schedule-schedule.result c.args.price c.schedule-schedule.ensures.capped (cheap c)).0

pub returns-else-get-ge-ONE_DOLLAR-clause-high : goal.returns-else-get-ge-ONE_DOLLAR-clause-high
returns-else-get-ge-ONE_DOLLAR-clause-high c =
    rw (product_of c) (bounds c.args.self.now.caps c.schedule-schedule.result c.args.price c.schedule-schedule.ensures.capped (cheap c)).1

-- ---- goals that `grind` closes; the search that is tried before it takes longer

pub returns-then-get-ge-ONE_DOLLAR-clause-high : goal.returns-then-get-ge-ONE_DOLLAR-clause-high
returns-then-get-ge-ONE_DOLLAR-clause-high c = grind (arith, common_steps)

pub times-requires-clause-low : goal.times-requires-clause-low
times-requires-clause-low c = grind (arith, common_steps)

pub times-requires-clause-high : goal.times-requires-clause-high
times-requires-clause-high c = grind (arith, common_steps)

pub returns-then-get-ge-ONE_DOLLAR-clause-low : goal.returns-then-get-ge-ONE_DOLLAR-clause-low
returns-then-get-ge-ONE_DOLLAR-clause-low c = grind (arith, common_steps)

pub returns-then-get-ge-ONE_DOLLAR-clause-fee : goal.returns-then-get-ge-ONE_DOLLAR-clause-fee
returns-then-get-ge-ONE_DOLLAR-clause-fee c = grind (arith, common_steps)
