-- `sums_of_row`: a row that is left has the sums of one, by `one-left`; one that self-help takes out has none.
use Rattle.std.proofs.Common.{◌≡◌, pos, ap, sym, ◌∙◌, arith, rules, min}
use mir.Val.{SFits}
use Rattle.std.specs.Int.{w128}
use Rattle.std.proofs.lemmas.Int.{ints, to_z-of_z}
use Rattle.nms_trades.specs.Sums.{cost_of}
use Rattle.nms_trades.specs.declared.money_through.Sums.{Sums}
use Rattle.nms_trades.proofs.SumFacts.{as_number, one-left}
use Rattle.nms_trades.proofs.money_through.sums_of_row.Goals as goal

pub returns-then-is_helped-clause-cost : goal.returns-then-is_helped-clause-cost
unfolding cost_of
returns-then-is_helped-clause-cost c =
    let dollars : c.none.result.dollars ≡ pos 0 = ap (λ (sums : Sums). sums.dollars) (c.none.ensures c.args.execution.now 0) in
    record { low = omega (arith, ints, dollars); high = omega (arith, ints, dollars) }

pub returns-then-is_helped-clause-left : goal.returns-then-is_helped-clause-left
returns-then-is_helped-clause-left c =
    let shares : c.none.result.shares ≡ min 0 0 = ap (λ (sums : Sums). sums.shares) (c.none.ensures c.args.execution.now 0) in
    omega (arith, shares)

pub returns-clause-sums : goal.returns-clause-sums
returns-clause-sums c =
    let fits : SFits w128 c.cost_of.result = search rules in
    one-left c.args.execution.now c.args.left c.args.row.now c.args.flickers c.difference-by.result c.min-shares.result c.from.result _
    (sym c.is_helped.ensures ∙ c.if-is_helped.false) c.difference-by.ensures c.min-shares.ensures
    (to_z-of_z w128 c.cost_of.result fits ∙ c.cost_of.ensures.cost) (c.from.ensures ∙ as_number c.args.flickers)
