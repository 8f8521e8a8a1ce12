-- The rows that `csv` finds in a vendor's file: one delimiter, double quotes or none, rows of any length, nothing trimmed, a
-- byte order mark at the start dropped, blank lines no rows.
use Rattle.std.specs.Prelude.{ℕ, ◌≡◌, true, Bool, List, Option, Some, None}
use Rattle.csv.specs.Reading.{AreRecords, Reached, Ready, default_config, is_flexible, reader_config, reader_state, reader_trim}
use Rattle.csv.specs.Reading.{source_of, strip_bom}
use Rattle.csv.specs.declared.parser.Config.{Config}
use Rattle.csv.specs.declared.parser.State.TheVariants as state
use Rattle.csv.specs.declared.reader.Reader.{Reader}
use Rattle.csv.specs.declared.reader.Trim.TheVariants as trim
use Rattle.nms_lines.specs.Layout.{Record}
use Rattle.nms_import.specs.declared.row_source.RowSource.{RowSource}

-- what a source of rows has left: what the source below it has
abbrev pub unread : {R : Type 0} → (R → Option (List ℕ)) → RowSource R → Option (List ℕ)
unread remaining rows = remaining rows.source

-- a delimiter, and whether a double quote quotes
abbrev pub row_config : (delimiter : ℕ) → (quotes : Bool) → Config
row_config delimiter quotes = record default_config { delimiter = delimiter; quoting = quotes }

-- all the rows of a text, if its bytes are known
abbrev pub AreAllRows : Config → Option (List ℕ) → List Record → Type 0
AreAllRows config None rows = Unit {0}
AreAllRows config (Some bytes) rows = AreRecords config state.StartRecord (strip_bom bytes) rows

-- after these rows the reader is at the rest of the text
abbrev pub StandsAfter : {R : Type 0} → Config → (R → Option (List ℕ)) → Reader R → Option (List ℕ) → List Record → Type 0
StandsAfter config remaining reader None rows = Unit {0}
StandsAfter config remaining reader (Some bytes) rows =
    (rest : List ℕ) × (source_of remaining reader ≡ Some rest)
    × Reached config state.StartRecord (strip_bom bytes) rows (reader_state reader) rest

-- a reader that has read these rows, with which the text begins
pub record RowsFrom {R : Type 0} (config : Config) (remaining : R → Option (List ℕ)) (reader : Reader R) (bytes : Option (List ℕ))
    (rows : List Record) : Type 0 where
  pub plain : reader_trim reader ≡ trim.None
  pub ready : Ready reader
  pub flexible : is_flexible reader ≡ true
  pub configured : reader_config reader ≡ config
  pub stands : StandsAfter config remaining reader bytes rows
