-- `the_least_finding_is_read`: the law, by `reads_least_finding`.
use Rattle.nms_setup_places.proofs.LeastFinding.{reads_least_finding}
use Rattle.nms_setup_places.proofs.laws.the_least_finding_is_read.Goals as goal

pub returns : goal.returns
returns c = reads_least_finding
