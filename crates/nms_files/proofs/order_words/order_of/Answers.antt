-- `order_of`: clause `order`, by `asked`.
use Rattle.std.proofs.Common.{arith, ap, sym, ◌∙◌}
use Rattle.std.proofs.lemmas.Grind.{common_steps}
use Rattle.std.specs.Option.{option_copied}
use Rattle.nms_files.specs.OrderWords.{order_with}
use Rattle.nms_files.proofs.WordFacts.{after, asked}
use Rattle.nms_files.proofs.order_words.order_of.Goals as goal

pub returns-clause-order : goal.returns-clause-order
returns-clause-order c =
    let said = order_with c.args.roster.now c.args.side.now c.args.sym.now c.args.shares.now c.args.limit.now c.args.manual in
    let words = asked c.args.roster.now c.args.side.now c.args.sym.now c.args.shares.now c.args.limit.now c.args.manual
    (option_copied c.args.names) in
    c.order_with.ensures.order ∙ sym (words ∙ ap (λ set. after set said) (sym c.in_ok-self_help.ensures.set))

-- ---- goals that `grind` closes; the search that is tried before it takes longer

pub returns-clause-named : goal.returns-clause-named
returns-clause-named c = grind (arith, common_steps)

pub returns-in_err-self_help-clause-there : goal.returns-in_err-self_help-clause-there
returns-in_err-self_help-clause-there c = grind (arith, common_steps)

pub returns-in_err-self_help-clause-order : goal.returns-in_err-self_help-clause-order
returns-in_err-self_help-clause-order c = grind (arith, common_steps)

pub returns-in_err-self_help-clause-named : goal.returns-in_err-self_help-clause-named
returns-in_err-self_help-clause-named c = grind (arith, common_steps)
