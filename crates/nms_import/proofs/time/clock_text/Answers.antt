-- `clock_text`: all that it promises, by `text_of_pairs`.
use Rattle.std.proofs.Common.{refl, ◌/◌, ◌%◌}
use Rattle.nms_import.proofs.ClockFacts.{text_of_pairs}
use Rattle.nms_import.proofs.time.clock_text.Goals as goal

pub returns : goal.returns
returns c = text_of_pairs c.args.time (c.args.time / 1000000000 % 1000000) (c.args.time % 1000000000) refl refl
