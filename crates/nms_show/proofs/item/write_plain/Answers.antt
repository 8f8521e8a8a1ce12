-- `write_plain`: numbers, amounts and the two words are printable.
use Rattle.std.proofs.Common.{refl}
use Rattle.std.specs.Fmt.{decimal}
use Rattle.nms_units.specs.Money.{money_text}
use Rattle.nms_show.proofs.SafeFacts.{printable_ascii, printable_decimal, printable_money}
use Rattle.nms_show.proofs.item.write_plain.Goals as goal

pub write_number-requires : goal.write_number-requires
write_number-requires g c = (decimal c.in-Number.number, refl, printable_decimal c.in-Number.number)

pub write_number-requires-in-Money : goal.write_number-requires-in-Money
write_number-requires-in-Money g c = (money_text c.new.result, refl, printable_money c.new.result)

pub write_printable-requires : goal.write_printable-requires
write_printable-requires g c = record { printable = printable_ascii _ refl }

pub write_printable-requires-in-Flag-false : goal.write_printable-requires-in-Flag-false
write_printable-requires-in-Flag-false g c = record { printable = printable_ascii _ refl }
