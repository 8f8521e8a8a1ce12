-- `clock_in`: all that it promises, by `clock_of`.
use Rattle.std.proofs.Common.{rules, ap, ◌∙◌}
use Rattle.nms_import.specs.Times.{nanoseconds}
use Rattle.nms_import.proofs.TimeFacts.{clock_of, rest_of}
use Rattle.nms_import.proofs.time.clock_in.Goals as goal

pub returns : goal.returns
returns c =
    clock_of c.args.text.now c.in_ok-second.second c.in_ok-after.after (search rules) c.in_ok-second.ensures.seconds
    (c.in_ok-after.ensures.nanoseconds ∙ ap nanoseconds (rest_of c.args.text.now 6))
