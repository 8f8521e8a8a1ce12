-- `judge_turns`: one turn more, by `answered_next`; at the end, by `answered_all`.
use Rattle.std.proofs.Common.{subst, take, ◌≡◌, ◌∙◌, List, arith}
use Rattle.std.proofs.lemmas.List.{take_all}
use Rattle.nms_stream.specs.Tapes.{sizes_in}
use Rattle.nms_trades.specs.Found.{IsWeighed}
use Rattle.nms_trades.specs.Turns.{AreAnsweredIn}
use Rattle.nms_trades.specs.declared.order.Turn.{Turn}
use Rattle.nms_trades.proofs.TurnFacts.{answered_all, answered_next}
use Rattle.nms_trades.proofs.judging.judge_turns.Goals as goal

pub loop-turn-preserved : goal.loop-turn-preserved
loop-turn-preserved c =
    let tape = c.loop-turn.replay.tape.now in
    record {
      tape = c.in_ok-judge_turn.ensures.tape ∙ c.loop-turn.invariant.tape;
      places = c.in_ok-judge_turn.ensures.places;
      answered = rw c.in_ok-judge_turn.ensures.tape
          (answered_next (IsWeighed (sizes_in tape) tape.changes.items) c.args.executions.now c.loop-turn.answers.items
          c.judge_turn.new.answers.items c.args.turns.now c.loop-turn.turn-index (record { version = 0; place = 0 }) c.loop-turn-test.true
          c.in_ok-judge_turn.ensures.own c.in_ok-judge_turn.ensures.others c.loop-turn.invariant.answered);
    }

pub returns-clause-answered : goal.returns-clause-answered
returns-clause-answered c = λ had.
    let tape = c.loop-turn.replay.tape.now in
    let all : take c.loop-turn.turn-index c.args.turns.now ≡ c.args.turns.now =
    take_all c.loop-turn.turn-index c.args.turns.now (omega (arith, c.loop-turn-test.false)) in
    rw (← c.loop-turn.invariant.tape)
    (answered_all (IsWeighed (sizes_in tape) tape.changes.items) c.args.executions.now c.loop-turn.answers.items c.args.turns.now had
    (subst (λ (turns : List Turn). AreAnsweredIn (IsWeighed (sizes_in tape) tape.changes.items) c.args.executions.now
    c.loop-turn.answers.items turns) all c.loop-turn.invariant.answered))
