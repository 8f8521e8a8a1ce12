-- `one_shard_judges`: by `just_one`.
use Rattle.nms_trades.proofs.StretchFacts.{just_one}
use Rattle.nms_trades.proofs.laws.one_shard_judges.Goals as goal

pub returns : goal.returns
returns c = just_one
