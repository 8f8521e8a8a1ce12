-- `cents_in`: clause `number`, by `price_number-cents`.
use Rattle.std.proofs.Common.{ℕ, ◌-◌, length, sym, ◌∙◌, arith}
use Rattle.std.proofs.lemmas.Grind.{common_steps}
use Rattle.nms_units.proofs.PriceLemmas.{price_number-cents}
use Rattle.nms_units.proofs.price.cents_in.Goals as goal

pub returns-in_ok-whole-in-46-clause-number : goal.returns-in_ok-whole-in-46-clause-number
returns-in_ok-whole-in-46-clause-number c =
    let count : ℕ = length c.args.text.now in
    sym (price_number-cents c.args.text.now (count - 3) (count - 2) (count - 1) c.in_ok-whole-in-46.whole c.from.result c.from-in-46.result
    (omega arith) (omega arith) (omega arith) (cc) (sym c.in_ok-whole-in-46.ensures.number)
    (sym c.is_ascii_digit.ensures.value ∙ c.if-is_ascii_digit.true)
    (sym c.is_ascii_digit-then-is_ascii_digit.ensures.value ∙ c.if-is_ascii_digit-2.true) c.from.ensures c.from-in-46.ensures)

-- ---- goals that `grind` closes; the search that is tried before it takes longer

pub overflow_mul-cents : goal.overflow_mul-cents
overflow_mul-cents c = grind (arith, common_steps)

pub returns-in_ok-whole-in-46-clause-high : goal.returns-in_ok-whole-in-46-clause-high
returns-in_ok-whole-in-46-clause-high c = grind (arith, common_steps)

pub overflow_add-result : goal.overflow_add-result
overflow_add-result c = grind (arith, common_steps)

pub returns-in_err-whole-in-46-clause-number : goal.returns-in_err-whole-in-46-clause-number
returns-in_err-whole-in-46-clause-number c = grind (arith, common_steps)

pub overflow_sub-ones-in-46 : goal.overflow_sub-ones-in-46
overflow_sub-ones-in-46 c = grind (arith, common_steps)

pub returns-in_err-whole-in-46-clause-high : goal.returns-in_err-whole-in-46-clause-high
returns-in_err-whole-in-46-clause-high c = grind (arith, common_steps)

pub overflow_mul-result : goal.overflow_mul-result
overflow_mul-result c = grind (arith, common_steps)

pub slice_bounds-whole-length : goal.slice_bounds-whole-length
slice_bounds-whole-length c = grind (arith, common_steps)

pub overflow_sub-tens-in-46 : goal.overflow_sub-tens-in-46
overflow_sub-tens-in-46 c = grind (arith, common_steps)

pub overflow_add-cents : goal.overflow_add-cents
overflow_add-cents c = grind (arith, common_steps)
