-- `alike_boards_stay_alike`: all that it promises, by `stay_alike`.
use Rattle.nms_opening.proofs.StayFacts.{stay_alike}
use Rattle.nms_opening.proofs.laws.alike_boards_stay_alike.Goals as goal

pub returns : goal.returns
returns c = stay_alike
