-- What a reader has read, before the first row and after one more.
use Rattle.std.proofs.Common.{◌≡◌, ℕ, true, List, [], ◌∷◌, ◌++◌, refl, sym}
use Rattle.std.specs.Prelude.{Option, Some, None, option_map}
use Rattle.csv.specs.Reading.{ReadRecord, Reached, reader_config, reader_state, source_of, strip_bom}
use Rattle.csv.specs.declared.parser.Config.{Config}
use Rattle.csv.specs.declared.parser.State.TheVariants as state
use Rattle.csv.specs.declared.reader.Reader.{Reader}
use Rattle.csv.proofs.ReadFacts.{rows-more}
use Rattle.nms_lines.specs.Layout.{Record}
use Rattle.nms_import.specs.Rows.{StandsAfter}

-- before the first row
pub stands_first : {R : Type 0} (config : Config) (remaining : R → Option (List ℕ)) (reader : Reader R) (bytes : Option (List ℕ))
    → source_of remaining reader ≡ option_map strip_bom bytes → reader_state reader ≡ state.StartRecord
    → StandsAfter config remaining reader bytes []
unfolding Reached
stands_first config remaining reader None source start = tt
stands_first config remaining reader (Some text) source start = (strip_bom text, source, (sym start, refl))

-- after one more
pub stands_more : {R : Type 0} (config : Config) (remaining : R → Option (List ℕ)) (old new : Reader R) (bytes : Option (List ℕ))
    (seen : List Record) (fields : Record)
    → reader_config old ≡ config → StandsAfter config remaining old bytes seen → ReadRecord remaining old new true fields
    → StandsAfter config remaining new bytes (seen ++ fields ∷ [])
stands_more config remaining old new None seen fields is stands read = tt
stands_more config remaining old new (Some text) seen fields is stands read =
    rows-more remaining old new fields config state.StartRecord (strip_bom text) stands.0 seen is stands.1 stands.2 read
