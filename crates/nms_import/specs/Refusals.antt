-- Why a mapping is refused, by its code. This product's own rule.
use Rattle.std.specs.Prelude.{ℕ, Bool, true, false, List, codes}
use Rattle.nms_import.specs.declared.map_fault.MapFault.{MapFault}
use Rattle.nms_import.specs.declared.map_fault.MapFault.TheVariants as fault
use Rattle.nms_import.specs.declared.map_fault.Wrong.{Wrong}
use Rattle.nms_import.specs.declared.map_fault.Wrong.TheVariants as wrong

-- the code of what is wrong at a key
abbrev pub wrong_code : Wrong → List ℕ
wrong_code wrong.Missing = codes "M2"
wrong_code wrong.Unknown = codes "M3"
wrong_code wrong.BadValue = codes "M4"

-- its code
abbrev pub code_of : MapFault → List ℕ
code_of (fault.NotToml line) = codes "M1"
code_of (fault.Refused finding) = wrong_code finding.wrong
code_of (fault.NoColumn key expected) = codes "M5"
code_of fault.NoMemory = codes "M6"

-- a fault of what a document says: not of its text, and not of a file's first line
abbrev pub is_of_document : MapFault → Bool
is_of_document (fault.NotToml line) = false
is_of_document (fault.Refused finding) = true
is_of_document (fault.NoColumn key expected) = false
is_of_document fault.NoMemory = true

-- a fault of the text itself
abbrev pub is_of_text : MapFault → Bool
is_of_text (fault.NotToml line) = true
is_of_text (fault.Refused finding) = false
is_of_text (fault.NoColumn key expected) = false
is_of_text fault.NoMemory = false

-- the file's first row lacks a name, or out of memory
abbrev pub is_of_first_row : MapFault → Bool
is_of_first_row (fault.NotToml line) = false
is_of_first_row (fault.Refused finding) = false
is_of_first_row (fault.NoColumn key expected) = true
is_of_first_row fault.NoMemory = true
