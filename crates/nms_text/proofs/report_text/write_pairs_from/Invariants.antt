-- `write_pairs_from`: what holds in each turn of its loop.
use Rattle.std.proofs.Common.{◌-◌}
use Rattle.nms_text.specs.Report.{pair_line}
use Rattle.nms_text.proofs.PairFacts.{HasWrittenPairs}
use Rattle.nms_text.proofs.report_text.write_pairs_from.Given as goal

abbrev pub invariant-loop-pair : goal.invariant-loop-pair
invariant-loop-pair g l =
    HasWrittenPairs (pair_line l.roster) (g.W.Write.contents l.fn.writer) (g.W.Write.contents l.writer) l.view l.fn.from l.place

abbrev pub decreases-loop-pair : goal.decreases-loop-pair
decreases-loop-pair g l = 1024 - l.place
