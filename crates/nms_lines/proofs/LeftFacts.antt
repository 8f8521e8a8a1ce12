-- The records that a reader still has to give after it gave one.
use Rattle.std.proofs.Common.{◌≡◌, ℕ, true, false, List, [], ◌∷◌, refl, sym, ap, ◌∙◌, inl, inr}
use Rattle.std.specs.Prelude.{IsSome, Option, Some}
use Rattle.csv.specs.Machine.{Read}
use Rattle.csv.specs.Reading.{AreRecords, ChangesHeaders, ReadRecord, Reached, Ready, default_config, names_headers, reader_config}
use Rattle.csv.specs.Reading.{reader_headers, reader_state, reader_trim, source_of, strip_bom}
use Rattle.csv.specs.declared.parser.Config.{Config}
use Rattle.csv.specs.declared.parser.State.{State}
use Rattle.csv.specs.declared.reader.Reader.{Reader}
use Rattle.csv.proofs.ReadFacts.{rows-end, rows-more}
use Rattle.nms_lines.specs.Layout.{Record}
use Rattle.csv.specs.declared.parser.State.TheVariants as state
use Rattle.csv.specs.declared.reader.Trim.TheVariants as trim
use Rattle.nms_lines.specs.Left.{AreLeft}
use Rattle.nms_lines.specs.Records.{AreAllRecords}

left_next : (cfg : Config) (now after : State) (bytes rest : List ℕ) (left : List Record) (fields : Record)
    → AreRecords cfg now bytes left → Reached cfg now bytes (fields ∷ []) after rest
    → (more : List Record) × (left ≡ fields ∷ more) × AreRecords cfg after rest more
unfolding Reached
left_next cfg now after bytes rest [] fields all one =
    let none = all.3 in
    let end = rw (sym all.2.0, sym all.2.1) at none in
    let nothing : ⊥ = cc (sym end ∙ one.1) in
    absurd nothing
left_next cfg now after bytes rest (first ∷ more) fields all one =
    let same : all.2.0 ≡ one.0 = cc (sym all.2.1 ∙ one.1) in
    let state_is : all.2.0.1 ≡ after = ap (λ (read : Read). read.1) same ∙ one.3.0 in
    let rest_is : all.2.0.2 ≡ rest = ap (λ (read : Read). read.2) same ∙ one.3.1 in
    let goes = all.2.3 in (
      more,
      ap (λ (one : Record). one ∷ more) (all.2.2 ∙ ap (λ (read : Read). read.0) same ∙ sym one.2),
      (all.0, all.1, rw (state_is, rest_is) at goes, all.3),
    )

-- a record that is read is the first of those that were left
pub left_more : {R : Type 0} (remaining : R → Option (List ℕ)) (old new : Reader R) (left : List Record) (fields : Record)
    → AreLeft remaining old left → ReadRecord remaining old new true fields → Ready new
    → (more : List Record) × (left ≡ fields ∷ more) × AreLeft remaining new more
unfolding Reached
left_more remaining old new left fields was read ready =
    let step = rows-more remaining old new fields default_config (reader_state old) was.bytes was.bytes [] was.config was.known (refl, refl)
    read in
    let next = left_next default_config (reader_state old) (reader_state new) was.bytes step.0 left fields was.records step.2 in (
      next.0,
      next.1,
      record {
        plain = read.3 ∙ was.plain;
        ready = ready;
        config = read.2 ∙ was.config;
        bytes = step.0;
        known = step.1;
        records = next.2;
      },
    )

-- if none is read, none was left
pub left_none : {R : Type 0} (remaining : R → Option (List ℕ)) (old new : Reader R) (left : List Record) (fields : Record)
    → AreLeft remaining old left → ReadRecord remaining old new false fields → left ≡ []
unfolding Reached
left_none remaining old new [] fields was read = refl
left_none remaining old new (first ∷ more) fields was read =
    let end = rows-end remaining old new fields default_config was.bytes was.config was.known read in
    let found = was.records.2.1 in
    let nothing : ⊥ = cc (sym end ∙ found) in
    absurd nothing

-- before the first record all are left
pub left_first : {R : Type 0} (remaining : R → Option (List ℕ)) (reader : Reader R) (bytes : List ℕ) (records : List Record)
    → reader_trim reader ≡ trim.None → Ready reader → reader_config reader ≡ default_config
    → source_of remaining reader ≡ Some (strip_bom bytes) → reader_state reader ≡ state.StartRecord
    → AreAllRecords (Some bytes) records → AreLeft remaining reader records
left_first remaining reader bytes records plain ready config known start all =
    record { plain = plain; ready = ready; config = config; bytes = strip_bom bytes; known = known; records = rw start all }

-- setting a header row leaves all records to read
pub left_headed : {R : Type 0} (remaining : R → Option (List ℕ)) (old new : Reader R) (bytes : List ℕ) (records : List Record)
    → ChangesHeaders old new → IsSome (reader_headers new) → names_headers old ≡ true → reader_trim old ≡ trim.None
    → reader_config old ≡ default_config → source_of remaining old ≡ Some (strip_bom bytes) → reader_state old ≡ state.StartRecord
    → AreAllRecords (Some bytes) records → AreLeft remaining new records
left_headed {R} remaining old new bytes records same set named plain config known start all =
    left_first remaining new bytes records (ap (λ (r : Reader R). reader_trim r) same ∙ plain)
    (inr (inl (ap (λ (r : Reader R). names_headers r) same ∙ named, set))) (ap (λ (r : Reader R). reader_config r) same ∙ config)
    (ap (λ (r : Reader R). source_of remaining r) same ∙ known) (ap (λ (r : Reader R). reader_state r) same ∙ start) all
