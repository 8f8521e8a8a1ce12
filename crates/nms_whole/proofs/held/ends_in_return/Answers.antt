-- `ends_in_return`: the last byte, by `last_return`.
use Rattle.std.proofs.Common.{Some, None, sym}
use Rattle.nms_whole.proofs.LineFacts.{last_return}
use Rattle.nms_whole.proofs.held.ends_in_return.Goals as goal

pub returns-in-Some : goal.returns-in-Some
returns-in-Some c = sym (last_return c.args.line.now (Some c.in-Some.byte.now) c.in-Some.ensures.value)

pub returns-in-None : goal.returns-in-None
returns-in-None c = sym (last_return c.args.line.now None c.in-None.ensures.value)
