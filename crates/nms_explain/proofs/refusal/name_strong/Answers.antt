-- `name_strong`: the name of a field is printable.
use Rattle.nms_explain.proofs.NameFacts.{name_plain}
use Rattle.nms_explain.proofs.refusal.name_strong.Goals as goal

pub returns : goal.returns
returns c = rw c.text.ensures (name_plain c.args.name)
