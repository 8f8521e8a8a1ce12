-- `write_report`: all that it promises, by `report_written`.
use Rattle.std.proofs.Common.{arith}
use Rattle.std.proofs.lemmas.Grind.{common_steps}
use Rattle.nms_text.proofs.ReportFacts.{report_written}
use Rattle.nms_text.proofs.report_text.write_report.Goals as goal

pub returns : goal.returns
returns g c =
    report_written c.write_pairs.result _ _ _ _ _ c.args.roster.now c.args.view.now c.best-bid.result c.best-offer.result
    c.market_between.result
    c.best-bid.ensures c.best-offer.ensures c.market_between.ensures c.in_ok-write_header.ensures c.in_ok-write_side.ensures
    c.in_ok-write_side-2.ensures c.write_pairs.ensures

-- ---- goals that `grind` closes; the search that is tried before it takes longer

pub write_pairs-requires : goal.write_pairs-requires
write_pairs-requires g c = grind (arith, common_steps)

pub write_header-requires : goal.write_header-requires
write_header-requires g c = grind (arith, common_steps)
