-- `append_change`: the record of a change, by `record_parts`.
use Rattle.std.proofs.Common.{arith}
use Rattle.std.proofs.lemmas.Grind.{common_steps}
use Rattle.nms_change_text.specs.ChangeText.{kind_letter, said_fields}
use Rattle.nms_change_text.proofs.TextParts.{record_parts}
use Rattle.nms_change_text.proofs.change_writing.append_change.Goals as goal

pub returns : goal.returns
returns c =
    rw (record_parts (kind_letter c.args.change.now) (said_fields c.args.roster.now c.args.change.now)) (grind (arith, common_steps))
