-- `write_item`: both colours are safe, and so is an item without one.
use Rattle.nms_show.specs.Safe.{bold, nothing, red}
use Rattle.nms_show.proofs.WriteFacts.{safe_text}
use Rattle.nms_show.proofs.lines.write_item.Goals as goal

pub write_coloured-requires : goal.write_coloured-requires
write_coloured-requires g c = record { colour = bold nothing }

pub write_coloured-requires-in-Alarm : goal.write_coloured-requires-in-Alarm
write_coloured-requires-in-Alarm g c = record { colour = red nothing }

pub returns-in-Text : goal.returns-in-Text
returns-in-Text g c = λ own. safe_text c.write_plain.result _ _ (c.write_plain.ensures own)
