-- `run_over`: the desks and the ends of the lane are as `run_in_threads` requires, by `ready_for`, `count_of_all` and `fresh_ends`;
-- what else it calls follows from how the tape was opened.
use Rattle.std.proofs.Common.{arith, ap, ◌∙◌, sym}
use Rattle.std.proofs.lemmas.Grind.{common_steps}
use Rattle.nms_versions.specs.Taped.{Taped, tape_of}
use Rattle.nms_live.specs.Keeping.{Keeping}
use Rattle.nms_live.proofs.CrewFacts.{count_of_all, fresh_ends, ready_for}
use Rattle.nms_live.proofs.living.run_over.Goals as goal

pub run_in_threads-requires-clause-ready : goal.run_in_threads-requires-clause-ready
run_in_threads-requires-clause-ready g c = λ loans lives.
    ready_for c.args.given.now.setup.now c.in-Ok-open_tape.publisher c.new-keeper.result c.in-Ok-open_tape.desks.items c.new-keeper.ensures
    c.in-Ok-open_tape.ensures.desks

pub run_in_threads-requires-clause-desks : goal.run_in_threads-requires-clause-desks
run_in_threads-requires-clause-desks g c = λ loans lives.
    count_of_all c.args.given.now.setup.now c.in-Ok-open_tape.publisher.opening c.in-Ok-open_tape.desks.items
    c.in-Ok-open_tape.ensures.desks

pub run_in_threads-requires-clause-ends : goal.run_in_threads-requires-clause-ends
run_in_threads-requires-clause-ends g c = λ loans lives.
    fresh_ends c.args.given.now c.feeds.result c.in-Ok.ends.1 c.in-Ok.ends.0.items c.in-Ok.ensures.senders c.in-Ok.ensures.taker.0
    c.in-Ok.ensures.taker.1 (c.requires.feeds ∙ sym c.feeds.ensures.value)

pub run_in_threads-requires-clause-empty : goal.run_in_threads-requires-clause-empty
run_in_threads-requires-clause-empty g c = λ loans lives.
    ap (λ (k : Keeping). tape_of k.taped) c.new-keeper.ensures ∙ ap tape_of c.in-Ok-open_tape.ensures.opened

pub new-keeper-requires : goal.new-keeper-requires
new-keeper-requires g c = ap (λ (t : Taped). t.published) c.in-Ok-open_tape.ensures.opened

pub close_all-requires : goal.close_all-requires
close_all-requires g c = record {
  limit = c.in-Ok-run_in_threads.ensures.same.limit ∙ ap (λ (k : Keeping). k.taped.limit) c.new-keeper.ensures
      ∙ ap (λ (t : Taped). t.limit) c.in-Ok-open_tape.ensures.opened;
  done = c.in-Ok-run_in_threads.ensures.done;
}

pub returns-in-Err : goal.returns-in-Err
returns-in-Err g c = record { closed = tt; refused = c.in-Err.ensures.fault }
