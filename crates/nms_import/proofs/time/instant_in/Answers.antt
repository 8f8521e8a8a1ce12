-- `instant_in`: all that it promises, by `instant_of`.
use Rattle.std.proofs.Common.{◌∙◌}
use Rattle.nms_import.proofs.TimeFacts.{instant_of}
use Rattle.nms_import.proofs.time.instant_in.Goals as goal

pub returns : goal.returns
returns c = c.instant_from.ensures ∙ instant_of c.args.text.now c.midnight_in.result c.if-not-has_date.ensures.date c.midnight_in.ensures.midnight
