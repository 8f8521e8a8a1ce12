-- `take_next`: all that it promises, by `stay_refused`.
use Rattle.std.proofs.Common.{arith}
use Rattle.std.proofs.lemmas.Grind.{common_steps}
use Rattle.csv.specs.Records.{fields_of}
use Rattle.nms_files.proofs.LineFacts.{stay_refused}
use Rattle.nms_files.proofs.line_file.take_next.Goals as goal

pub returns-else-is_none : goal.returns-else-is_none
returns-else-is_none g c records =
    stay_refused (g.T.FileItem.are_taken c.args.setup.now) (g.T.FileItem.is_refused c.args.setup.now) records (fields_of c.args.row.now)
    c.args.so_far.now.items.items c.args.so_far.now.refused c.if-is_none.ensures

-- ---- goals that `grind` closes; the search that is tried before it takes longer

pub returns-then-is_none : goal.returns-then-is_none
returns-then-is_none g c = grind (arith, common_steps)
