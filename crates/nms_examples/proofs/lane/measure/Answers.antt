-- `measure`: the ends of the lane that was opened are its senders, and they have sent nothing, by `opened` and `opened_new`.
use Rattle.nms_examples.proofs.LaneLemmas.{opened, opened_new}
use Rattle.nms_examples.proofs.lane.measure.Goals as goal

pub run-requires-clause-all : goal.run-requires-clause-all
run-requires-clause-all g c = λ loans lives.
    opened c.args.senders c.in-Ok.taker c.in-Ok.ends.items c.in-Ok.ensures.senders c.in-Ok.ensures.taker.0

pub run-requires-clause-new : goal.run-requires-clause-new
run-requires-clause-new g c = λ loans lives.
    opened_new c.args.senders c.in-Ok.taker c.in-Ok.ends.items c.in-Ok.ensures.senders
