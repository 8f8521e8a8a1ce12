-- `Money::times`: its clauses, and that the product fits, by its size, which is at most the product of the sizes.
use Rattle.std.proofs.Common.{ℕ, ℤ, pos, negsuc, neg_ℤ, unsigned_abs, ◌≡◌, ◌≤◌, ◌^◌, ◌*ℤ◌, ◌≤ℤ◌, arith, ◌∙◌, to_z, of_z}
use Rattle.std.proofs.lemmas.Int.{ints, fits_signed_from_abs, unsigned_abs-mul}
use Rattle.std.proofs.lemmas.Nat.{mul-le}
use Rattle.std.specs.Int.{w128}
use mir.Val.{SFits}
use Rattle.nms_units.proofs.money.Money.times.Goals as goal

-- money of at most 2^62 either way
size_of_money : (z : ℤ) → neg_ℤ (pos (2 ^ 62)) ≤ℤ z → z ≤ℤ pos (2 ^ 62) → unsigned_abs z ≤ 2 ^ 62
size_of_money (pos n) low high = omega (arith, ints)
size_of_money (negsuc n) low high = omega (arith, ints)

-- a number of at most 2^100 either way
low_of : (z : ℤ) → unsigned_abs z ≤ 2 ^ 100 → neg_ℤ (pos (2 ^ 100)) ≤ℤ z
low_of (pos n) size = omega (arith, ints)
low_of (negsuc n) size = omega (arith, ints)

high_of : (z : ℤ) → unsigned_abs z ≤ 2 ^ 100 → z ≤ℤ pos (2 ^ 100)
high_of (pos n) size = omega (arith, ints)
high_of (negsuc n) size = omega (arith, ints)

kept : (z : ℤ) → neg_ℤ (pos (2 ^ 100)) ≤ℤ z → z ≤ℤ pos (2 ^ 100) → to_z w128 (of_z w128 z) ≡ z
kept z low high = omega (arith, ints)

module _ (money : ℤ) (shares : ℕ) (low : neg_ℤ (pos (2 ^ 62)) ≤ℤ money) (high : money ≤ℤ pos (2 ^ 62)) (few : shares ≤ 2 ^ 37) where
  size : unsigned_abs (money *ℤ pos shares) ≤ 2 ^ 100
  size = rw (unsigned_abs-mul money (pos shares)) (omega (
    arith,
    mul-le (unsigned_abs money) shares (2 ^ 62) (2 ^ 37) (size_of_money money low high) few,
  ))

  -- the amount and the count, as they are passed to the product
  given : (read : ℤ) → read ≡ money → to_z w128 (of_z w128 read) ≡ money
  given read r = omega (arith, ints)

  count : (wide : ℤ) → wide ≡ pos shares → to_z w128 (of_z w128 wide) ≡ pos shares
  count wide w = omega (arith, ints)

  fits : (read wide : ℤ) → read ≡ money → wide ≡ pos shares → SFits w128 (to_z w128 (of_z w128 read) *ℤ to_z w128 (of_z w128 wide))
  fits read wide r w = rw (given read r, count wide w) (fits_signed_from_abs w128 (money *ℤ pos shares) (omega (arith, size)))

  product : (read wide result : ℤ) → read ≡ money → wide ≡ pos shares
      → result ≡ to_z w128 (of_z w128 (to_z w128 (of_z w128 read) *ℤ to_z w128 (of_z w128 wide))) → result ≡ money *ℤ pos shares
  product read wide result r w is =
      is ∙ (λ i. to_z w128 (of_z w128 (given read r i *ℤ count wide w i)))
      ∙ kept (money *ℤ pos shares) (low_of (money *ℤ pos shares) size) (high_of (money *ℤ pos shares) size)

product_of : (c : goal.After-new) → c.new.result ≡ c.args.self *ℤ pos c.args.shares
product_of c =
    product c.args.self c.args.shares c.requires.low c.requires.high c.requires.shares c.self.inside.nanodollars c.from.result
    c.new.result c.self.view_is c.from.ensures c.new.ensures

pub returns-clause-product : goal.returns-clause-product
returns-clause-product c = product_of c

pub returns-clause-low : goal.returns-clause-low
returns-clause-low c =
    rw (product_of c) (low_of (c.args.self *ℤ pos c.args.shares) (size c.args.self c.args.shares c.requires.low c.requires.high
    c.requires.shares))

pub returns-clause-high : goal.returns-clause-high
returns-clause-high c =
    rw (product_of c) (high_of (c.args.self *ℤ pos c.args.shares) (size c.args.self c.args.shares c.requires.low c.requires.high
    c.requires.shares))

pub overflow_mul-self-inside : goal.overflow_mul-self-inside
overflow_mul-self-inside c =
    fits c.args.self c.args.shares c.requires.low c.requires.high c.requires.shares c.self.inside.nanodollars c.from.result
    c.self.view_is c.from.ensures
