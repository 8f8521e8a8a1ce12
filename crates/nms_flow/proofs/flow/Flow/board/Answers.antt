-- `Flow::board`: clause `went`, by `seen_stands` and `went_looked`.
use Rattle.nms_board.proofs.Offered.{seen_stands}
use Rattle.nms_board.specs.Shown.{seen_on}
use Rattle.nms_flow.proofs.StepLemmas.{went_looked}
use Rattle.nms_flow.proofs.flow.Flow.board.Goals as goal

pub returns-clause-went : goal.returns-clause-went
returns-clause-went c desk sym =
    went_looked c.args.self.now desk sym (seen_on c.args.self.now.board sym)
    (λ tape stands. seen_stands c.args.self.now.board tape sym stands)
