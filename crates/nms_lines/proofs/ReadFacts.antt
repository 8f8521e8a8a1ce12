-- What a reader has read, before the first record and after one more.
use Rattle.std.proofs.Common.{◌≡◌, ℕ, true, List, [], ◌∷◌, ◌++◌, refl, sym}
use Rattle.std.specs.Prelude.{Option, Some, None, option_map}
use Rattle.csv.specs.Reading.{ReadRecord, Reached, default_config, reader_config, reader_state, source_of, strip_bom}
use Rattle.csv.specs.Machine.{next_record}
use Rattle.csv.specs.declared.parser.State.TheVariants as state
use Rattle.csv.specs.declared.reader.Reader.{Reader}
use Rattle.csv.proofs.ReadFacts.{rows-more}
use Rattle.nms_lines.specs.Layout.{Record}
use Rattle.nms_lines.specs.Records.{AreAllRecords, BeginRecords, StandsAfter}

-- before the first record
pub stands_first : {R : Type 0} (remaining : R → Option (List ℕ)) (reader : Reader R) (bytes : Option (List ℕ))
    → source_of remaining reader ≡ option_map strip_bom bytes → reader_state reader ≡ state.StartRecord
    → StandsAfter remaining reader bytes []
unfolding Reached
stands_first remaining reader None source start = tt
stands_first remaining reader (Some text) source start = (strip_bom text, source, (sym start, refl))

-- after one more
pub stands_more : {R : Type 0} (remaining : R → Option (List ℕ)) (old new : Reader R) (bytes : Option (List ℕ)) (seen : List Record)
    (fields : Record)
    → reader_config old ≡ default_config → StandsAfter remaining old bytes seen → ReadRecord remaining old new true fields
    → StandsAfter remaining new bytes (seen ++ fields ∷ [])
stands_more remaining old new None seen fields config stands read = tt
stands_more remaining old new (Some text) seen fields config stands read =
    rows-more remaining old new fields default_config state.StartRecord (strip_bom text) stands.0 seen config stands.1 stands.2 read

-- the beginning with no record
pub begins_first : (bytes : Option (List ℕ)) → BeginRecords bytes []
unfolding Reached
begins_first None = tt
begins_first (Some text) = (state.StartRecord, strip_bom text, (refl, refl))

-- what was read begins the text
pub begins_read : {R : Type 0} (remaining : R → Option (List ℕ)) (reader : Reader R) (bytes : Option (List ℕ)) (seen : List Record)
    → StandsAfter remaining reader bytes seen → BeginRecords bytes seen
begins_read remaining reader None seen stands = tt
begins_read remaining reader (Some text) seen stands = (reader_state reader, stands.0, stands.2)

-- a text of no bytes has no records
pub no_records : AreAllRecords (Some []) []
unfolding Reached strip_bom next_record
no_records = (state.StartRecord, [], (refl, refl), refl)
