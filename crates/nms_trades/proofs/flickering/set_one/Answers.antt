-- `set_one`: the quotations that were traded through are of the roster's participants, by `passed_parts`.
use Rattle.std.proofs.Common.{◌<◌, ◌∙◌, All, subst, sym}
use Rattle.nms_board.specs.declared.row.Row.{Row}
use Rattle.nms_quote.specs.Tape.{version}
use Rattle.nms_quote.specs.declared.side_quote.Side.{Side}
use Rattle.nms_stream.specs.Tapes.{sizes_in}
use Rattle.nms_trades.specs.Found.{IsStanding}
use Rattle.nms_trades.proofs.OwnFacts.{passed_parts}
use Rattle.nms_trades.proofs.flickering.set_one.Goals as goal

pub flickers_of-requires-clause-own : goal.flickers_of-requires-clause-own
flickers_of-requires-clause-own c =
    let sizes = sizes_in c.args.tape.now in
    let execution = c.args.execution.now in
    let tape = version execution.version c.args.tape.now.changes.items in
    let found : IsStanding sizes c.args.tape.now.changes.items execution c.in-Some.finding = rw c.in-Some.is at c.requires.found in
    subst (All (λ (row : Side × Row). row.1.part < sizes.parts)) (sym (c.deref.ensures.value ∙ found.own.passed))
    (passed_parts sizes tape execution.sym execution.millionths
    (λ side. c.rows_have_one_rank_order.ensures.in_order sizes tape execution.sym side))
