-- `twenty_digits_in`: clause `number`, by `number_in-last`.
use Rattle.std.proofs.Common.{arith, lit<, sym, ◌∙◌, Some, None}
use Rattle.std.proofs.lemmas.Grind.{common_steps}
use Rattle.nms_units.proofs.DigitLemmas.{number_in-last}
use Rattle.nms_units.proofs.money.twenty_digits_in.Goals as goal

pub returns-in_err-last-clause-number : goal.returns-in_err-last-clause-number
returns-in_err-last-clause-number c =
    let whole = number_in-last 19 c.args.text.now c.split_at.result.0.now c.split_at.result.1.now (Some c.in_ok-front.front) None (lit< tt)
    c.if-text-ne20.false c.split_at.ensures.front c.split_at.ensures.back (sym c.in_ok-front.was ∙ c.parse_digits-2.ensures.number)
    (sym c.in_err-last.was ∙ c.parse_digits-3.ensures.number) in
    cc

pub returns-clause-number : goal.returns-clause-number
returns-clause-number c =
    let whole = number_in-last 19 c.args.text.now c.split_at.result.0.now c.split_at.result.1.now (Some c.in_ok-front.front)
    (Some c.in_ok-last.last) (lit< tt) c.if-text-ne20.false c.split_at.ensures.front c.split_at.ensures.back
    (sym c.in_ok-front.was ∙ c.parse_digits-2.ensures.number) (sym c.in_ok-last.was ∙ c.parse_digits-3.ensures.number) in
    cc

-- ---- goals that `grind` closes; the search that is tried before it takes longer

pub returns-in_err-last-clause-high : goal.returns-in_err-last-clause-high
returns-in_err-last-clause-high c = grind (arith, common_steps)

pub returns-in_err-front-clause-number : goal.returns-in_err-front-clause-number
returns-in_err-front-clause-number c = grind (arith, common_steps)
