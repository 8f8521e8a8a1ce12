-- `make_desk`: the call of `reader`, the call of `tell` and the call of `learn`, by `admits`, `tells` and `learns`.
use Rattle.std.proofs.Common.{arith}
use Rattle.std.proofs.lemmas.Grind.{common_steps}
use Rattle.nms_versions.proofs.RuleLemmas.{admits, tells, learns}
use Rattle.nms_versions.proofs.opening.make_desk.Goals as goal

pub reader-requires : goal.reader-requires
reader-requires c = admits

pub tell-requires : goal.tell-requires
tell-requires c = tells _ _

pub learn-requires-clause-rule : goal.learn-requires-clause-rule
learn-requires-clause-rule c = learns _ _ _ _

-- ---- goals that `grind` closes; the search that is tried before it takes longer

pub learn-requires-clause-own : goal.learn-requires-clause-own
learn-requires-clause-own c = grind (arith, common_steps)

pub returns-clause-waiting : goal.returns-clause-waiting
returns-clause-waiting c = grind (arith, common_steps)

pub invariant_of-result : goal.invariant_of-result
invariant_of-result c = grind (arith, common_steps)
