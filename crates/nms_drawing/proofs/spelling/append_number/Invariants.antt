-- `append_number`: the digits so far and those of what is left are those of the number.
use Rattle.std.proofs.Common.{◌≡◌, ◌-◌, ◌++◌}
use Rattle.nms_drawing.specs.Spelling.{digits_within, number_text}
use Rattle.nms_drawing.proofs.spelling.append_number.Given as goal

abbrev pub invariant-loop : goal.invariant-loop
invariant-loop l = l.out.items ++ digits_within (13 - l.counter) l.left ≡ l.fn.out.items ++ number_text l.number
