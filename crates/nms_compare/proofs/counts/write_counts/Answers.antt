-- `write_counts`: the line of the sum after those of the counts.
use Rattle.nms_show.proofs.Offered.{safe_writes}
use Rattle.nms_compare.proofs.counts.write_counts.Goals as goal

pub returns-clause-safe : goal.returns-clause-safe
returns-clause-safe g c = safe_writes c.line.result _ _ _ c.in_ok-rows.ensures.safe c.line.ensures.safe
