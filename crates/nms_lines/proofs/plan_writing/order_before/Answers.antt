-- `order_before`: goals that `grind` closes; the search that is tried before it takes longer.
use Rattle.std.proofs.Common.{arith}
use Rattle.std.proofs.lemmas.Grind.{common_steps}
use Rattle.nms_lines.proofs.plan_writing.order_before.Goals as goal

pub returns-clause-written : goal.returns-clause-written
returns-clause-written c = grind (arith, common_steps)

pub returns-clause-room : goal.returns-clause-room
returns-clause-room c = grind (arith, common_steps)

pub returns-clause-within : goal.returns-clause-within
returns-clause-within c = grind (arith, common_steps)

pub number_before-end-requires-clause-room : goal.number_before-end-requires-clause-room
number_before-end-requires-clause-room c = grind (arith, common_steps)

pub text_before-end-requires-2-clause-room : goal.text_before-end-requires-2-clause-room
text_before-end-requires-2-clause-room c = grind (arith, common_steps)

pub text_before-requires-clause-within : goal.text_before-requires-clause-within
text_before-requires-clause-within c = grind (arith, common_steps)

pub number_before-end-requires-clause-within : goal.number_before-end-requires-clause-within
number_before-end-requires-clause-within c = grind (arith, common_steps)

pub text_before-requires-clause-room : goal.text_before-requires-clause-room
text_before-requires-clause-room c = grind (arith, common_steps)

pub text_before-end-requires-2-clause-within : goal.text_before-end-requires-2-clause-within
text_before-end-requires-2-clause-within c = grind (arith, common_steps)
