-- `a_day_judges_once`: by `together_once` and `together_twice`, from the first shard on.
use Rattle.std.proofs.Common.{◌≡◌, ◌+◌, IfSome, arith, subst}
use Rattle.nms_trades.specs.Day.{judged_among, once}
use Rattle.nms_trades.specs.declared.said.Said.TheVariants as said
use Rattle.nms_trades.proofs.DayFacts.{together_once, together_twice}
use Rattle.nms_trades.proofs.laws.a_day_judges_once.Goals as goal

pub returns-clause-once : goal.returns-clause-once
returns-clause-once c shards it is =
    let had = subst (λ o. IfSome o (λ it. once it ≡ 0 + judged_among shards)) is (together_once said.Unknown shards) in
    omega (arith, had)

pub returns-clause-twice : goal.returns-clause-twice
returns-clause-twice c shards none = omega (arith, together_twice said.Unknown shards none)
