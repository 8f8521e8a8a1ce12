-- The records that `csv` finds in a text: comma, double quote, no header row, records of any length,
-- nothing trimmed, a byte order mark at the start dropped, blank lines no records.
use Rattle.std.specs.Prelude.{ℕ, ◌≡◌, true, List, Option, Some, None}
use Rattle.csv.specs.Reading.{AreRecords, Reached, Ready, default_config, has_failed, is_flexible, reader_config, reader_state, reader_trim}
use Rattle.csv.specs.Reading.{source_of, strip_bom}
use Rattle.csv.specs.declared.parser.State.{State}
use Rattle.csv.specs.declared.parser.State.TheVariants as state
use Rattle.csv.specs.declared.reader.Reader.{Reader}
use Rattle.csv.specs.declared.reader.Trim.TheVariants as trim
use Rattle.nms_lines.specs.Layout.{Record}

-- all the records of a text, if its bytes are known
abbrev pub AreAllRecords : Option (List ℕ) → List Record → Type 0
AreAllRecords None records = Unit {0}
AreAllRecords (Some bytes) records = AreRecords default_config state.StartRecord (strip_bom bytes) records

-- the first records of a text, and where the reading is after them
abbrev pub Begins : List ℕ → List Record → State → List ℕ → Type 0
Begins bytes records now rest = Reached default_config state.StartRecord (strip_bom bytes) records now rest

-- the first records of a text, if its bytes are known
abbrev pub BeginRecords : Option (List ℕ) → List Record → Type 0
BeginRecords None records = Unit {0}
BeginRecords (Some bytes) records = (now : State) × (rest : List ℕ) × Begins bytes records now rest

-- after these records the reader is where the text goes on
abbrev pub StandsAfter : {R : Type 0} → (R → Option (List ℕ)) → Reader R → Option (List ℕ) → List Record → Type 0
StandsAfter remaining reader None records = Unit {0}
StandsAfter remaining reader (Some bytes) records =
    (rest : List ℕ) × (source_of remaining reader ≡ Some rest) × Begins bytes records (reader_state reader) rest

-- a reader that has read these first records of the text, and reads on as the layouts need
pub record ReadsFrom {R : Type 0} (remaining : R → Option (List ℕ)) (reader : Reader R) (bytes : Option (List ℕ)) (records : List Record) :
    Type 0 where
  pub plain : reader_trim reader ≡ trim.None
  pub ready : Ready reader
  pub flexible : is_flexible reader ≡ true
  pub config : reader_config reader ≡ default_config
  pub stands : StandsAfter remaining reader bytes records
  pub begins : BeginRecords bytes records

-- a read failed, so the reader gives no more records
abbrev pub HasStopped : {R : Type 0} → Reader R → Type 0
HasStopped reader = has_failed reader ≡ true
