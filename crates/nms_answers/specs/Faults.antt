-- The code of each fault of a client's stream. This product's own rule.
use Rattle.std.specs.Prelude.{ℕ, List, codes}
use Rattle.nms_answers.specs.declared.answer_fault.AnswerFault.{AnswerFault}
use Rattle.nms_answers.specs.declared.answer_fault.AnswerFault.TheVariants as fault

abbrev pub code_of : AnswerFault → List ℕ
code_of fault.ReadFault = codes "E1"
code_of fault.WriteFault = codes "E2"
code_of fault.TooLong = codes "E3"
code_of fault.NoMemory = codes "E4"
code_of fault.NoReading = codes "E8"
