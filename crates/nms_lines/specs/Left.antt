-- The records that a reader still has to give.
use Rattle.std.specs.Prelude.{ℕ, ◌≡◌, List, Option, Some}
use Rattle.csv.specs.Reading.{AreRecords, Ready, default_config, reader_config, reader_state, reader_trim, source_of}
use Rattle.csv.specs.declared.reader.Reader.{Reader}
use Rattle.csv.specs.declared.reader.Trim.TheVariants as trim
use Rattle.nms_lines.specs.Layout.{Record}

pub record AreLeft {R : Type 0} (remaining : R → Option (List ℕ)) (reader : Reader R) (left : List Record) : Type 0 where
  pub plain : reader_trim reader ≡ trim.None
  pub ready : Ready reader
  pub config : reader_config reader ≡ default_config
  pub bytes : List ℕ
  pub known : source_of remaining reader ≡ Some bytes
  pub records : AreRecords default_config (reader_state reader) bytes left
