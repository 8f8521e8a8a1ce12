-- `write_object`: with no memory nothing is written.
use Rattle.nms_show.specs.Safe.{IsSafe, nothing}
use Rattle.nms_show.proofs.WriteFacts.{adds_no_part}
use Rattle.nms_show.proofs.object.write_object.Goals as goal

pub returns-in-Err : goal.returns-in-Err
returns-in-Err g c = record { safe = λ own. adds_no_part IsSafe (g.W.Write.contents c.args.answers.now) nothing }
