-- `write_row`: nothing is written if the sum is too large.
use Rattle.nms_show.specs.Safe.{IsSafe, nothing}
use Rattle.nms_show.proofs.Offered.{adds_no_part}
use Rattle.nms_compare.proofs.counts.write_row.Goals as goal

pub returns-in_default-clause-safe : goal.returns-in_default-clause-safe
returns-in_default-clause-safe g c = adds_no_part IsSafe (g.W.Write.contents c.args.out.now) nothing
