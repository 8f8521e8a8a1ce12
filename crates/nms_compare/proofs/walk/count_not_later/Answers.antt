-- `count_not_later`: clause `count`, by `first_found` and `none_found`.
use Rattle.std.proofs.Common.{sym, ◌∙◌}
use Rattle.nms_compare.proofs.StandingFacts.{first_found, none_found}
use Rattle.nms_compare.proofs.walk.count_not_later.Goals as goal

pub returns-in-Some-clause-count : goal.returns-in-Some-clause-count
returns-in-Some-clause-count c =
    first_found c.args.keys.now c.args.key c.in-Some.place (sym c.in-Some.is ∙ c.first_later.ensures.place)

pub returns-in-None-clause-count : goal.returns-in-None-clause-count
returns-in-None-clause-count c = none_found c.args.keys.now c.args.key (sym c.in-None.is ∙ c.first_later.ensures.place)
