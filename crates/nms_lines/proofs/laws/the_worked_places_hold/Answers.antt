-- `the_worked_places_hold`: all that it promises, computed.
use Rattle.std.proofs.Common.{refl}
use Rattle.nms_lines.proofs.laws.the_worked_places_hold.Goals as goal

pub returns : goal.returns
returns c = record { price = refl; half = refl; flag = refl; side = refl; lot = refl; count = refl }
