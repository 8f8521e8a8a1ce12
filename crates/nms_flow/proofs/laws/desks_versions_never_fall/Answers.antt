-- `desks_versions_never_fall`: all that it promises, by `versions_rise`.
use Rattle.nms_flow.proofs.LawLemmas.{versions_rise}
use Rattle.nms_flow.proofs.laws.desks_versions_never_fall.Goals as goal

pub returns : goal.returns
returns c = versions_rise
