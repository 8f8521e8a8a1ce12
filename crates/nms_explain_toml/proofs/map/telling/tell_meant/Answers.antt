-- `tell_meant`: nothing, or a line whose texts are printable.
use Rattle.nms_show.proofs.Offered.{nothing_added}
use Rattle.nms_explain_toml.proofs.map.telling.tell_meant.Goals as goal

pub returns-in_default : goal.returns-in_default
returns-in_default g c = record { safe = nothing_added (g.W.Write.contents c.args.answers.now) }
