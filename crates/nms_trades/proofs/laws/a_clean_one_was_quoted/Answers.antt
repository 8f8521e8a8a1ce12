-- `a_clean_one_was_quoted`: its first version was, so each later one is.
use Rattle.nms_trades.specs.Found.{standing_in}
use Rattle.nms_trades.specs.Quoted.{is_unquoted}
use Rattle.nms_trades.proofs.QuotedFacts.{clean_quoted, quoted_from}
use Rattle.nms_trades.proofs.laws.a_clean_one_was_quoted.Goals as goal

pub returns : goal.returns
returns c = λ sizes tape execution clean n order.
    quoted_from tape execution.sym execution.first n
    (clean_quoted execution.other (is_unquoted tape execution.sym execution.first) (standing_in sizes tape execution) clean) order
