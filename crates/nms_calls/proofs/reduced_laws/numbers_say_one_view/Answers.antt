-- `numbers_say_one_view`: by `one_view`.
use Rattle.nms_calls.proofs.ReducedSaid.{one_view}
use Rattle.nms_calls.proofs.reduced_laws.numbers_say_one_view.Goals as goal

pub returns : goal.returns
returns c = one_view
