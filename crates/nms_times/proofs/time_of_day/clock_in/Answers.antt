-- `clock_in`: all that it promises, by `clock_of`.
use Rattle.std.proofs.Common.{rules, ap, ◌∙◌}
use Rattle.nms_times.specs.Clock.{nanoseconds}
use Rattle.nms_times.proofs.ClockFacts.{clock_of, rest_of}
use Rattle.nms_times.proofs.time_of_day.clock_in.Goals as goal

pub returns : goal.returns
returns c =
    clock_of c.args.text.now c.in_ok-second.second c.in_ok-after.after (search rules) c.in_ok-second.ensures.seconds
    (c.in_ok-after.ensures.nanoseconds ∙ ap nanoseconds (rest_of c.args.text.now 6))
