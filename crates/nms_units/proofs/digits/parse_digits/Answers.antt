-- `parse_digits`: clause `small`, a number within its width and the turns of its loop, by `below_more_digits`
-- and `one_more_digit`.
use Rattle.std.proofs.Common.{◌≡◌, ℕ, ◌-◌, ◌<◌, arith, true, get_or, ◌∙◌, Bool, ◌&&◌}
use Rattle.std.proofs.lemmas.Grind.{common_steps}
use Rattle.std.proofs.lemmas.List.Folds.{list_all_more}
use Rattle.std.proofs.lemmas.Int.Digits.{digits_value_more}
use Rattle.std.specs.Char.{is_ascii_digit, digit_value}
use Rattle.nms_units.proofs.Powers.{below_more_digits, one_more_digit}
use Rattle.nms_units.proofs.digits.parse_digits.Goals as goal

pub overflow_mul-number : goal.overflow_mul-number
overflow_mul-number c = omega (
  arith,
  below_more_digits c.loop-digit.number c.loop-digit.digit-index 18 c.loop-digit.invariant.small (omega arith),
)

pub overflow_add-number : goal.overflow_add-number
overflow_add-number c = omega (
  arith,
  below_more_digits c.loop-digit.number c.loop-digit.digit-index 18 c.loop-digit.invariant.small (omega arith),
)

both_true : {a b : Bool} → a ≡ true → b ≡ true → (a && b) ≡ true
both_true h k = rw (h, k)

-- a digit's code is 48 more than its value
digit_of : (c d : ℕ) → is_ascii_digit c ≡ true → d ≡ c - 48 → (d ≡ digit_value c) × (d < 10)
digit_of c d h e = (grind (arith, common_steps), grind (arith, common_steps))

pub loop-digit-preserved : goal.loop-digit-preserved
loop-digit-preserved c =
    let i = c.loop-digit.digit-index in
    let is_digit : is_ascii_digit (get_or c.args.text.now i 0) ≡ true = cc in
    let digit = digit_of (get_or c.args.text.now i 0) c.from.result is_digit c.from.ensures in
    let value = digits_value_more 10 c.args.text.now i c.loop-digit-test.true in
    let digits = list_all_more is_ascii_digit c.args.text.now i 0 c.loop-digit-test.true in
    record {
      digits = digits ∙ both_true c.loop-digit.invariant.digits is_digit;
      value = cc (value, digit.0);
      small = one_more_digit c.loop-digit.number i c.from.result c.loop-digit.invariant.small digit.1;
    }

-- the index at the end is the text's length
pub returns-clause-small : goal.returns-clause-small
returns-clause-small c = below_more_digits c.loop-digit.number c.loop-digit.digit-index c.args.most c.loop-digit.invariant.small
    (omega arith)

-- ---- goals that `grind` closes; the search that is tried before it takes longer

pub returns-clause-by_length : goal.returns-clause-by_length
returns-clause-by_length c = grind (arith, common_steps)

pub returns-then-not-is_ascii_digit-clause-number : goal.returns-then-not-is_ascii_digit-clause-number
returns-then-not-is_ascii_digit-clause-number c = grind (arith, common_steps)

pub returns-clause-number : goal.returns-clause-number
returns-clause-number c = grind (arith, common_steps)
