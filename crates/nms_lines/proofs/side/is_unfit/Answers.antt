-- `is_unfit`: what a price and a zero say, by `fit_with_price` and `unfit_zero`.
use Rattle.std.proofs.Common.{arith, ◌≡◌, ◌∙◌, Err, ap, sym}
use Rattle.std.proofs.lemmas.Grind.{common_steps}
use Rattle.nms_units.specs.Price.{price_number, price_reading}
use Rattle.nms_units.specs.declared.unit_fault.UnitFault.{UnitFault}
use Rattle.nms_units.specs.declared.unit_fault.UnitFault.TheVariants as fault
use Rattle.nms_lines.specs.Numbers.{shares_number}
use Rattle.nms_lines.proofs.SideFacts.{fit_with_price, unfit_zero}
use Rattle.nms_lines.proofs.side.is_unfit.Goals as goal

pub returns-in-Ok : goal.returns-in-Ok
returns-in-Ok c =
    let price = price_number c.args.price_text.now in
    let shares = shares_number c.args.shares_text.now in
    sym (fit_with_price price shares c.in-Ok.field-0 (sym c.parse.ensures ∙ c.in-Ok.is))

pub returns-in-Err-ZeroPrice : goal.returns-in-Err-ZeroPrice
returns-in-Err-ZeroPrice c =
    let zero : price_reading c.args.price_text.now ≡ Err fault.ZeroPrice =
    sym c.parse.ensures ∙ c.in-Err-ZeroPrice.is ∙ ap (λ (why : UnitFault). Err why) c.in-Err-ZeroPrice.field-0-is in
    rw c.is_zero.ensures (sym (unfit_zero (price_number c.args.price_text.now) (shares_number c.args.shares_text.now) zero))

-- ---- goals that `grind` closes; the search that is tried before it takes longer

pub returns-in-Err-BadPrice : goal.returns-in-Err-BadPrice
returns-in-Err-BadPrice c = grind (arith, common_steps)
