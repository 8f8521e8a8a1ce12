-- `digits_read_as_printed`: all that it promises, by `number_in-decimal`.
use Rattle.nms_units.proofs.DecimalLemmas.{number_in-decimal}
use Rattle.nms_units.proofs.digits.digits_read_as_printed.Goals as goal

pub returns : goal.returns
returns c = number_in-decimal
