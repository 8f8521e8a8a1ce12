-- `Flow::best`: clause `went`, by `seen_stands` and `went_looked`.
use Rattle.std.proofs.Common.{arith}
use Rattle.std.proofs.lemmas.Grind.{common_steps}
use Rattle.nms_board.proofs.Offered.{seen_stands}
use Rattle.nms_board.specs.Shown.{seen_on}
use Rattle.nms_flow.proofs.StepLemmas.{went_looked}
use Rattle.nms_flow.proofs.flow.Flow.best.Goals as goal

pub returns-clause-went : goal.returns-clause-went
returns-clause-went c desk =
    went_looked c.args.self.now desk c.args.sym (seen_on c.args.self.now.board c.args.sym)
    (λ tape stands. seen_stands c.args.self.now.board tape c.args.sym stands)

-- ---- goals that `grind` closes; the search that is tried before it takes longer

pub returns-clause-bid : goal.returns-clause-bid
returns-clause-bid c = grind (arith, common_steps)

pub best_on-requires : goal.best_on-requires
best_on-requires c = grind (arith, common_steps)

pub best_on-requires-2 : goal.best_on-requires-2
best_on-requires-2 c = grind (arith, common_steps)

pub returns-clause-offer : goal.returns-clause-offer
returns-clause-offer c = grind (arith, common_steps)
