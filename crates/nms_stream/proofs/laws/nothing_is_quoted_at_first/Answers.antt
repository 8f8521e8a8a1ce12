-- `nothing_is_quoted_at_first`: all that it promises, by `quoted_first`.
use Rattle.nms_stream.proofs.QuotedFacts.{quoted_first}
use Rattle.nms_stream.proofs.laws.nothing_is_quoted_at_first.Goals as goal

pub returns : goal.returns
returns c = quoted_first
