-- `write_tally`: the counts, and the line of the sums.
use Rattle.std.proofs.Common.{refl}
use Rattle.nms_show.specs.Safe.{IsSafe}
use Rattle.nms_show.proofs.Offered.{safe_writes, writes_err}
use Rattle.nms_import.proofs.telling.write_tally.Goals as goal

pub returns-in_err-write_counts : goal.returns-in_err-write_counts
returns-in_err-write_counts g c = record {
  safe = writes_err IsSafe _ _ c.from_residual.result c.from_residual.ensures.0
      (c.in_err-write_counts.ensures c.counts_of-counts.ensures);
}

pub returns : goal.returns
returns g c = record {
  safe = safe_writes c.line.result _ _ _ (c.in_ok-write_counts.ensures c.counts_of-counts.ensures) (c.line.ensures refl);
}
