-- `write_pairs`: all that it promises, by `all_pairs_written`.
use Rattle.std.proofs.Common.{arith}
use Rattle.std.proofs.lemmas.Grind.{common_steps}
use Rattle.nms_text.proofs.ReportFacts.{all_pairs_written}
use Rattle.nms_text.proofs.report_text.write_pairs.Goals as goal

pub returns : goal.returns
returns g c =
    let first = rw c.unwrap-first.ensures at c.new.ensures in
    all_pairs_written c.write_pairs_from.result _ _ c.args.roster.now c.args.view.now c.unwrap-first.result first.1
    c.write_pairs_from.ensures

-- ---- goals that `grind` closes; the search that is tried before it takes longer

pub write_pairs_from-requires : goal.write_pairs_from-requires
write_pairs_from-requires g c = grind (arith, common_steps)
