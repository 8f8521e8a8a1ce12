-- `plan_before`: goals that `grind` closes; the search that is tried before it takes longer.
use Rattle.std.proofs.Common.{arith}
use Rattle.std.proofs.lemmas.Grind.{common_steps}
use Rattle.nms_lines.proofs.plan_writing.plan_before.Goals as goal

pub returns-clause-written : goal.returns-clause-written
returns-clause-written c = grind (arith, common_steps)

pub number_before-end-requires-2-clause-room : goal.number_before-end-requires-2-clause-room
number_before-end-requires-2-clause-room c = grind (arith, common_steps)

pub returns-clause-within : goal.returns-clause-within
returns-clause-within c = grind (arith, common_steps)

pub order_before-end-requires-clause-within : goal.order_before-end-requires-clause-within
order_before-end-requires-clause-within c = grind (arith, common_steps)

pub order_before-end-requires-clause-room : goal.order_before-end-requires-clause-room
order_before-end-requires-clause-room c = grind (arith, common_steps)

pub order_before-end-requires-clause-name : goal.order_before-end-requires-clause-name
order_before-end-requires-clause-name c = grind (arith, common_steps)

pub word_before-requires-clause-room : goal.word_before-requires-clause-room
word_before-requires-clause-room c = grind (arith, common_steps)

pub word_before-requires-clause-within : goal.word_before-requires-clause-within
word_before-requires-clause-within c = grind (arith, common_steps)

pub number_before-end-requires-2-clause-within : goal.number_before-end-requires-2-clause-within
number_before-end-requires-2-clause-within c = grind (arith, common_steps)
