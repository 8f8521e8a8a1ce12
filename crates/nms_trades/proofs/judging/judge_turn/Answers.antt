-- `judge_turn`: the execution at the place has its finding there, by `turn_own`, and each other one what it had.
use Rattle.std.proofs.Common.{Some, arith, sym}
use Rattle.nms_board.proofs.Offered.{slice_get-set_other}
use Rattle.nms_stream.specs.Tapes.{sizes_in}
use Rattle.nms_trades.specs.Found.{IsWeighed}
use Rattle.nms_trades.proofs.TurnFacts.{turn_own}
use Rattle.nms_trades.proofs.judging.judge_turn.Goals as goal

pub returns-clause-own : goal.returns-clause-own
returns-clause-own c = λ execution at.
    let tape = c.args.replay.now.tape.now in
    turn_own (IsWeighed (sizes_in tape) tape.changes.items) execution c.index-executions-place.result c.args.executions.now
    c.args.answers.now.items c.args.turn.now.place c.in_ok-finding.finding (omega (arith, c.if-place-executions.false, c.requires.places))
    at c.index-executions-place.is c.in_ok-finding.ensures.found

pub returns-clause-others : goal.returns-clause-others
returns-clause-others c = λ other apart.
    slice_get-set_other c.args.answers.now.items c.args.turn.now.place other (Some c.in_ok-finding.finding) (λ same. apart (sym same))
