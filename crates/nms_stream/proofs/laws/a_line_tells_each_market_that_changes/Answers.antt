-- `a_line_tells_each_market_that_changes`: all that it promises, by `tells_of`.
use Rattle.nms_stream.proofs.QuotedFacts.{tells_of}
use Rattle.nms_stream.proofs.laws.a_line_tells_each_market_that_changes.Goals as goal

pub returns : goal.returns
returns c = tells_of
