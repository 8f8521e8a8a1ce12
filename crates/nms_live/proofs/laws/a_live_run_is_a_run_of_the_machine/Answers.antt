-- `a_live_run_is_a_run_of_the_machine`: the law, by `is_some_run`.
use Rattle.std.proofs.Common.{map, arith}
use Rattle.nms_live.proofs.RunOfLemmas.{is_some_run}
use Rattle.nms_live.proofs.laws.a_live_run_is_a_run_of_the_machine.Goals as goal

pub returns : goal.returns
returns c =
    is_some_run c.args.setup.now (map (λ text. text.items) c.args.feeds.now) c.args.orders.now c.args.live.now
    (omega (arith, c.queue-room.ensures))
    c.tape_and_queue_are_a_merge.ensures.belonging c.requires
