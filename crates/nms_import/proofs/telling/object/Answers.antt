-- `object`: members whose own texts are printable ASCII make a safe object, by `plain_members`.
use Rattle.nms_show.proofs.Offered.{plain_members}
use Rattle.nms_import.proofs.telling.object.Goals as goal

pub returns : goal.returns
returns g c = λ own. c.write_object.ensures.safe (plain_members c.args.members.now own)
