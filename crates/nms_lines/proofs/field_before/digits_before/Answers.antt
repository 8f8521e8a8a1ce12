-- `digits_before`: clause `start` and the call of `write_digits`: a number of 64 bits takes at most 20 digits.
use Rattle.std.proofs.Common.{rules}
use Rattle.std.proofs.lemmas.Fmt.{length-decimal-le}
use Rattle.nms_lines.proofs.field_before.digits_before.Goals as goal

pub write_digits-requires : goal.write_digits-requires
write_digits-requires c = search (rules, length-decimal-le 20)

pub returns-clause-start : goal.returns-clause-start
returns-clause-start c = search (rules, length-decimal-le 20)
