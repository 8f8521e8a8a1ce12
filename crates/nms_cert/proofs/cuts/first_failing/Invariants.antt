-- `first_failing`: what holds in each turn of its loop: `at` and `none`.
use Rattle.std.proofs.Common.{ℕ, ◌≡◌, ◌<◌, false, slice_index_or}
use Rattle.nms_quote.specs.declared.certificate.Cut.{Cut}
use Rattle.nms_cert.specs.Doubts.{fails_bound}
use Rattle.nms_rules.specs.Usable.{rank_of}
use Rattle.nms_cert.proofs.cuts.first_failing.Given as goal

-- no cut so far fails
abbrev pub invariant-loop-cut : goal.invariant-loop-cut
invariant-loop-cut l = record {
  at : l.at ≡ l.cut-index;
  none : (k : ℕ) (d : Cut) → k < l.cut-index
      → fails_bound l.rows l.most l.cost (rank_of l.side (slice_index_or l.cuts k d).price) (slice_index_or l.cuts k d).kind ≡ false;
}
