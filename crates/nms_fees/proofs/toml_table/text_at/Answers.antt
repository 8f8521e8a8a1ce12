-- `text_at`: goals that `grind` closes; the search that is tried before it takes longer.
use Rattle.std.proofs.Common.{arith}
use Rattle.std.proofs.lemmas.Grind.{common_steps}
use Rattle.nms_fees.proofs.toml_table.text_at.Goals as goal

pub returns-in-Some-as_str-text : goal.returns-in-Some-as_str-text
returns-in-Some-as_str-text c = grind (arith, common_steps)
