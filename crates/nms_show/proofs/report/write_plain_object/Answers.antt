-- `write_plain_object`: keys and own texts that pass the test are printable.
use Rattle.nms_show.proofs.PlainFacts.{plain_members}
use Rattle.nms_show.proofs.report.write_plain_object.Goals as goal

pub returns : goal.returns
returns g c = record { safe = c.write_object.ensures.safe (plain_members c.args.members.now c.requires.plain) }
