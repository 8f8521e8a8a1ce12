-- The codes that the reviewer's program prints: their texts, what each speaks of, and the exit status of a call that one of them
-- ends. This product's own rule.
use Rattle.std.specs.Prelude.{ℕ, ◌≡◌, List, Bool, true, false, codes}
use Rattle.nms_show.specs.declared.show_fault.ShowFault.{ShowFault}
use Rattle.nms_show.specs.declared.show_fault.ShowFault.TheVariants as show_fault
use Rattle.nms_times.specs.declared.times_fault.TimesFault.{TimesFault}
use Rattle.nms_times.specs.declared.times_fault.TimesFault.TheVariants as times_fault
use Rattle.nms_codes.specs.declared.code.Code.{Code}
use Rattle.nms_codes.specs.declared.code.Code.TheVariants as code
use Rattle.nms_codes.specs.declared.matter.Matter.{Matter}
use Rattle.nms_codes.specs.declared.matter.Matter.TheVariants as matter

-- the code as it is printed
abbrev pub text_of : Code → List ℕ
text_of code.A1 = codes "A1"
text_of code.B1 = codes "B1"
text_of code.C1 = codes "C1"
text_of code.C2 = codes "C2"
text_of code.C3 = codes "C3"
text_of code.C4 = codes "C4"
text_of code.C5 = codes "C5"
text_of code.C6 = codes "C6"
text_of code.C7 = codes "C7"
text_of code.C8 = codes "C8"
text_of code.C9 = codes "C9"
text_of code.E1 = codes "E1"
text_of code.E2 = codes "E2"
text_of code.E3 = codes "E3"
text_of code.E3Rows = codes "E3"
text_of code.E4 = codes "E4"
text_of code.F4 = codes "F4"
text_of code.G2 = codes "G2"
text_of code.H1 = codes "H1"
text_of code.H2 = codes "H2"
text_of code.H3 = codes "H3"
text_of code.H4 = codes "H4"
text_of code.I1 = codes "I1"
text_of code.I2 = codes "I2"
text_of code.I3 = codes "I3"
text_of code.I4 = codes "I4"
text_of code.I5 = codes "I5"
text_of code.J1 = codes "J1"
text_of code.J2 = codes "J2"
text_of code.J3 = codes "J3"
text_of code.L1 = codes "L1"
text_of code.L2 = codes "L2"
text_of code.L3 = codes "L3"
text_of code.L4 = codes "L4"
text_of code.L5 = codes "L5"
text_of code.L6 = codes "L6"
text_of code.L7 = codes "L7"
text_of code.L8 = codes "L8"
text_of code.L9 = codes "L9"
text_of code.L10 = codes "L10"
text_of code.L11 = codes "L11"
text_of code.L12 = codes "L12"
text_of code.L13 = codes "L13"
text_of code.L14 = codes "L14"
text_of code.M1 = codes "M1"
text_of code.M2 = codes "M2"
text_of code.M3 = codes "M3"
text_of code.M4 = codes "M4"
text_of code.M5 = codes "M5"
text_of code.M6 = codes "M6"
text_of code.Usage = codes "usage"

-- what a code speaks of
abbrev pub matter_of : Code → Matter
matter_of code.A1 = matter.Content
matter_of code.B1 = matter.Memory
matter_of code.C1 = matter.Setup
matter_of code.C2 = matter.Setup
matter_of code.C3 = matter.Setup
matter_of code.C4 = matter.Setup
matter_of code.C5 = matter.Setup
matter_of code.C6 = matter.Setup
matter_of code.C7 = matter.Setup
matter_of code.C8 = matter.Setup
matter_of code.C9 = matter.Memory
matter_of code.E1 = matter.Input
matter_of code.E2 = matter.Output
matter_of code.E3 = matter.Content
matter_of code.E3Rows = matter.Content
matter_of code.E4 = matter.Memory
matter_of code.F4 = matter.Content
matter_of code.G2 = matter.Memory
matter_of code.H1 = matter.Content
matter_of code.H2 = matter.Content
matter_of code.H3 = matter.Content
matter_of code.H4 = matter.Content
matter_of code.I1 = matter.Import
matter_of code.I2 = matter.Import
matter_of code.I3 = matter.Import
matter_of code.I4 = matter.Import
matter_of code.I5 = matter.Import
matter_of code.J1 = matter.Content
matter_of code.J2 = matter.Content
matter_of code.J3 = matter.Content
matter_of code.L1 = matter.Record
matter_of code.L2 = matter.Record
matter_of code.L3 = matter.Record
matter_of code.L4 = matter.Record
matter_of code.L5 = matter.Record
matter_of code.L6 = matter.Record
matter_of code.L7 = matter.Record
matter_of code.L8 = matter.Record
matter_of code.L9 = matter.Record
matter_of code.L10 = matter.Record
matter_of code.L11 = matter.Record
matter_of code.L12 = matter.Memory
matter_of code.L13 = matter.Output
matter_of code.L14 = matter.Record
matter_of code.M1 = matter.Mapping
matter_of code.M2 = matter.Mapping
matter_of code.M3 = matter.Mapping
matter_of code.M4 = matter.Mapping
matter_of code.M5 = matter.Mapping
matter_of code.M6 = matter.Memory
matter_of code.Usage = matter.Words

-- the exit status of a call: 1 for a file or a stream, 2 for words, 3 for a setup or a mapping, 5 for memory, 6 for what a file
-- says, 7 for a doubtful import
abbrev pub status_of_matter : Matter → ℕ
status_of_matter matter.Record = 6
status_of_matter matter.Content = 6
status_of_matter matter.Setup = 3
status_of_matter matter.Mapping = 3
status_of_matter matter.Words = 2
status_of_matter matter.Input = 1
status_of_matter matter.Output = 1
status_of_matter matter.Memory = 5
status_of_matter matter.Import = 7

-- a word of the call is to blame, or the file that it names: neither the output nor memory
abbrev pub names_a_word : Matter → Bool
names_a_word matter.Output = false
names_a_word matter.Memory = false
names_a_word _ = true

abbrev pub status_of : Code → ℕ
status_of code = status_of_matter (matter_of code)

-- a code is printed so, and a call that ends by it has that status
pub record IsToldAs (code : Code) (printed : List ℕ) (ending : ℕ) : Type 0 where
  pub text : text_of code ≡ printed
  pub status : status_of code ≡ ending

-- why an answer was not printed
abbrev pub code_of_show : ShowFault → List ℕ
code_of_show show_fault.WriteFault = codes "E2"
code_of_show show_fault.NoMemory = codes "E4"

abbrev pub status_of_show : ShowFault → ℕ
status_of_show show_fault.WriteFault = 1
status_of_show show_fault.NoMemory = 5

-- why times were not read
abbrev pub code_of_times : TimesFault → List ℕ
code_of_times (times_fault.NotTime line) = codes "H1"
code_of_times (times_fault.TimesFall line) = codes "H2"
code_of_times times_fault.OtherLength = codes "H3"
code_of_times (times_fault.NotSymbol line) = codes "H4"
code_of_times times_fault.NoMemory = codes "E4"

abbrev pub status_of_times : TimesFault → ℕ
status_of_times (times_fault.NotTime line) = 6
status_of_times (times_fault.TimesFall line) = 6
status_of_times times_fault.OtherLength = 6
status_of_times (times_fault.NotSymbol line) = 6
status_of_times times_fault.NoMemory = 5
