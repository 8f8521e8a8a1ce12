-- `send_all`: clause `refused`.
use Rattle.std.proofs.Common.{arith}
use Rattle.std.proofs.lemmas.Grind.{common_steps}
use Rattle.nms_live.proofs.fed_feed.send_all.Goals as goal

pub returns-clause-refused : goal.returns-clause-refused
returns-clause-refused g c = c.send_rows.ensures.refused c.args.text.now c.open_records-reader.ensures.reads

-- ---- goals that `grind` closes; the search that is tried before it takes longer

pub returns-clause-same : goal.returns-clause-same
returns-clause-same g c = grind (arith, common_steps)
