-- `serve`: goals that `grind` closes; the search that is tried before it takes longer.
use Rattle.std.proofs.Common.{arith}
use Rattle.std.proofs.lemmas.Grind.{common_steps}
use Rattle.nms_scripts.proofs.script_record.serve.Goals as goal

pub serve_line-requires-clause-there : goal.serve_line-requires-clause-there
serve_line-requires-clause-there c = grind (arith, common_steps)
