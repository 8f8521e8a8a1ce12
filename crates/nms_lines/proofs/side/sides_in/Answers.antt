-- `sides_in`: what two quotes are, by `sides_of_quotes`.
use Rattle.std.proofs.Common.{rules}
use Rattle.nms_lines.proofs.SideFacts.{sides_of_quotes}
use Rattle.nms_lines.proofs.side.sides_in.Goals as goal

pub returns-then-is_some-2 : goal.returns-then-is_some-2
returns-then-is_some-2 c = search (rules, sides_of_quotes)
