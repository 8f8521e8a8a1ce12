-- `utc_in`: which time it is, by `utc_of`.
use Rattle.std.proofs.Common.{◌∙◌}
use Rattle.nms_import.proofs.TimeFacts.{utc_of}
use Rattle.nms_import.proofs.time.utc_in.Goals as goal

pub returns-clause-number : goal.returns-clause-number
returns-clause-number c =
    c.shifted.ensures.sum ∙ utc_of c.args.text.now c.zone_length.result c.in_ok-local.local c.to_utc.result c.zone_length.ensures.length
    c.in_ok-local.ensures.number c.to_utc.ensures.shift
