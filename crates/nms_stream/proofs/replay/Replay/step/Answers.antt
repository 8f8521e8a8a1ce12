-- `Replay::step`: the next change is taken, by `takes_next`; then the board is at the next version, by `steps`.
use Rattle.std.proofs.Common.{sym, ◌∙◌}
use Rattle.nms_stream.specs.Tapes.{sizes_in}
use Rattle.nms_stream.proofs.ReplayFacts.{at_end, steps, takes_next}
use Rattle.nms_stream.proofs.replay.Replay.step.Goals as goal

pub apply-requires : goal.apply-requires
apply-requires c =
    let replay = c.args.self.now in
    takes_next (sizes_in replay.tape.now) replay.tape.now.changes.items replay.board c.in-Some.change replay.at replay.tape.now.held
    replay.tape.now.few (sym c.next.ensures ∙ c.in-Some.is)

pub invariant_of-self : goal.invariant_of-self
invariant_of-self c =
    let replay = c.args.self.now in
    let step = steps (sizes_in replay.tape.now) replay.tape.now.changes.items replay.board c.apply.new.self c.in-Some.change replay.at
    replay.tape.now.held (sym c.next.ensures ∙ c.in-Some.is) c.apply.ensures.after c.apply.ensures.stands in
    record { at = step.at }

pub returns-in-Some-clause-step : goal.returns-in-Some-clause-step
returns-in-Some-clause-step c =
    let replay = c.args.self.now in
    steps (sizes_in replay.tape.now) replay.tape.now.changes.items replay.board c.apply.new.self c.in-Some.change replay.at
    replay.tape.now.held (sym c.next.ensures ∙ c.in-Some.is) c.apply.ensures.after c.apply.ensures.stands

pub returns-in-None-clause-step : goal.returns-in-None-clause-step
returns-in-None-clause-step c =
    let replay = c.args.self.now in
    at_end replay.tape.now.changes.items replay.board.applied replay.at.within (sym c.next.ensures ∙ c.in-None.is)
