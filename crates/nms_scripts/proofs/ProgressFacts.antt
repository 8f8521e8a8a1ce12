-- How a script comes from one record to the next.
use Rattle.std.proofs.Common.{ℕ, ◌≡◌, ◌≢◌, ◌≤◌, ◌+◌, ◌++◌, Bool, cond, List, [], ◌∷◌, length, Option, Some, None, refl, ap, sym, subst, ◌∙◌}
use Rattle.std.proofs.Common.{arith, append_assoc, length-append}
use Rattle.std.specs.Prelude.{count_by}
use Rattle.std.specs.Io.KnownBytes.{Appends, append_known}
use Rattle.std.proofs.lemmas.List.{append-nil}
use Rattle.std.proofs.lemmas.List.Concat.{flat_map-append}
use Rattle.std.proofs.lemmas.List.Sums.{sum_by-append}
use Rattle.csv.proofs.WriteFacts.{appends-more}
use Rattle.csv.specs.Reading.{Reached}
use Rattle.csv.specs.declared.reader.Reader.{Reader}
use Rattle.nms_lines.specs.Layout.{Record}
use Rattle.nms_lines.specs.Records.{AreAllRecords, BeginRecords, ReadsFrom}
use Rattle.nms_text.specs.declared.script_fault.ScriptFault.{ScriptFault}
use Rattle.nms_text.specs.declared.script_fault.ScriptFault.TheVariants as script_fault
use Rattle.nms_scripts.specs.declared.counts.Counts.{Counts}
use Rattle.nms_lines.specs.Text.{record_text, text_of}
use Rattle.nms_lines.specs.Written.{AppendsPart}
use Rattle.nms_lines.proofs.Offered.{appended, part_more}
use Rattle.nms_text.proofs.Offered.{appends-none}
use Rattle.nms_flow.specs.Flow.{State, IsAfter, room_of, room_under}
use Rattle.nms_flow.specs.Run.{Event, IsRun, published_by, taken_by}
use Rattle.nms_fees.specs.Settings.{Settings}
use Rattle.nms_scripts.specs.declared.TheConstants.{MOST_RECORDS}
use Rattle.nms_scripts.specs.Progress.{HasAnswered, HasCome, IsEnd, StopsAfter}
use Rattle.nms_scripts.specs.Script.{Answers, AnswersBeginning, AnswersFrom, AnswersInPart, AnswersRecord, Serves, is_refusal, tally_of}

-- the beginning with no record
pub begin_none : (bytes : Option (List ℕ)) → BeginRecords bytes []
unfolding Reached
begin_none None = tt
begin_none (Some bytes) = (_, _, (refl, refl))

-- one more record is answered
pub answers-push : (settings : Settings) (number : ℕ) (records : List Record) (fields : Record) (events more_events : List Event)
    (told more_told : List Record)
    → AnswersFrom settings number records events told → AnswersRecord settings (number + length records) fields more_events more_told
    → AnswersFrom settings number (records ++ fields ∷ []) (events ++ more_events) (told ++ more_told)
unfolding AnswersFrom
answers-push settings number [] fields events more_events told more_told h answered =
    let here : AnswersRecord settings number fields more_events more_told =
    subst (λ (n : ℕ). AnswersRecord settings n fields more_events more_told) (omega arith) answered in (
      more_events,
      [],
      more_told,
      [],
      ap (λ (es : List Event). es ++ more_events) h.0 ∙ sym (append-nil more_events),
      ap (λ (ts : List Record). ts ++ more_told) h.1 ∙ sym (append-nil more_told),
      here,
      (refl, refl),
    )
answers-push settings number (first ∷ records) fields events more_events told more_told h answered =
    let behind : AnswersRecord settings ((number + 1) + length records) fields more_events more_told =
    subst (λ (n : ℕ). AnswersRecord settings n fields more_events more_told) (omega arith) answered in (
      h.0,
      h.1 ++ more_events,
      h.2,
      h.3 ++ more_told,
      ap (λ (es : List Event). es ++ more_events) h.4 ∙ append_assoc h.0 h.1 more_events,
      ap (λ (ts : List Record). ts ++ more_told) h.5 ∙ append_assoc h.2 h.3 more_told,
      h.6,
      answers-push settings (number + 1) records fields h.1 more_events h.3 more_told h.7 behind,
    )

-- a record was answered, and its answer was written
pub answers_on : (settings : Settings) (machine moved : State) (old now then : Option (List ℕ)) (done refused : ℕ) (fields : Record)
    (answer : List ℕ) (is_refused : Bool) (so_far : HasAnswered settings machine old now done refused)
    → Serves (AnswersRecord settings (done + 1) fields) machine moved (Some []) (Some answer) is_refused → room_of moved ≡ room_of machine
    → Appends now then answer
    → (more : HasAnswered settings moved old then (done + 1) (refused + cond is_refused 1 0))
    × (more.records ≡ so_far.records ++ fields ∷ [])
answers_on settings machine moved old now then done refused fields answer is_refused so_far serves room writes =
    let served = serves so_far.events so_far.stands in
    let number : done + 1 ≡ 1 + length so_far.records = omega (arith, so_far.counted) in (
      record {
        records = so_far.records ++ fields ∷ [];
        events = so_far.events ++ served.0;
        told = so_far.told ++ served.1;
        room = room ∙ so_far.room;
        stands = served.3;
        answers = answers-push settings 1 so_far.records fields so_far.events served.0 so_far.told served.1 so_far.answers
            (subst (λ (n : ℕ). AnswersRecord settings n fields served.0 served.1) number served.2);
        written = subst (Appends old then) (ap (λ (t : List ℕ). text_of so_far.told ++ t) served.4
            ∙ sym (flat_map-append record_text so_far.told served.1))
            (appends-more old now then (text_of so_far.told) answer so_far.written writes);
        counted = length-append so_far.records (fields ∷ []) ∙ omega (arith, so_far.counted);
        refusals = sum_by-append (λ (r : Record). cond (is_refusal r) 1 0) so_far.told served.1 ∙ both so_far.refusals served.5;
      },
      refl,
    )
  where
    both : {a b c d : ℕ} → a ≡ b → c ≡ d → a + c ≡ b + d
    both e f = omega (arith, e, f)

-- a record was read, answered, and its answer was written
pub comes_on : {R : Type 0} (remaining : R → Option (List ℕ)) (settings : Settings) (bytes : Option (List ℕ)) (reader next : Reader R)
    (machine moved : State) (old now then : Option (List ℕ)) (done refused : ℕ)
    (fields : Record) (before after shown : List ℕ) (is_refused : Bool)
    (come : HasCome remaining settings bytes reader machine old now done refused)
    → ReadsFrom remaining next bytes (come.so_far.records ++ fields ∷ []) → before ≡ []
    → Serves (AnswersRecord settings (done + 1) fields) machine moved (Some before) (Some after) is_refused
    → room_of moved ≡ room_of machine → shown ≡ after → Appends now then shown
    → HasCome remaining settings bytes next moved old then (done + 1) (refused + cond is_refused 1 0)
comes_on remaining settings bytes reader next machine moved old now then done refused fields before after shown is_refused come reads empty
    serves room is_shown writes =
    let cleared : Serves (AnswersRecord settings (done + 1) fields) machine moved (Some []) (Some after) is_refused =
    subst (λ (t : List ℕ). Serves (AnswersRecord settings (done + 1) fields) machine moved (Some t) (Some after) is_refused) empty serves
    in
    let on = answers_on settings machine moved old now then done refused fields after is_refused come.so_far cleared room
    (subst (Appends now then) is_shown writes) in
    record { so_far = on.0; reads = subst (ReadsFrom remaining next bytes) (sym on.1) reads }

-- a script that a fault ended
pub answers_beginning : (settings : Settings) (bytes old new : Option (List ℕ)) (done refused : ℕ) (fault : ScriptFault)
    → StopsAfter settings bytes old new done refused fault → AnswersBeginning settings bytes old new fault
answers_beginning settings bytes old new done refused fault stops =
    let so_far = stops.1 in
    record {
      records = so_far.records;
      events = so_far.events;
      told = so_far.told;
      begun = stops.2;
      answer = record { run = subst (λ r. IsRun r so_far.events) so_far.room so_far.stands.run; answers = so_far.answers };
      written = so_far.written;
      long = stops.3;
    }

-- a record was read and answered, and the writer failed within its answer
pub breaks_off : {R : Type 0} (remaining : R → Option (List ℕ)) (settings : Settings) (bytes : Option (List ℕ)) (reader next : Reader R)
    (machine moved : State) (old now new : Option (List ℕ)) (done refused : ℕ)
    (fields : Record) (before after shown : List ℕ) (is_refused : Bool)
    (come : HasCome remaining settings bytes reader machine old now done refused)
    → ReadsFrom remaining next bytes (come.so_far.records ++ fields ∷ []) → before ≡ []
    → Serves (AnswersRecord settings (done + 1) fields) machine moved (Some before) (Some after) is_refused
    → room_of moved ≡ room_of machine → shown ≡ after → AppendsPart now new shown
    → AnswersInPart settings bytes old new
breaks_off remaining settings bytes reader next machine moved old now new done refused fields before after shown is_refused come reads empty
    serves room is_shown cut =
    let whole = append_known now shown in
    let meant = appended now shown in
    let on = comes_on remaining settings bytes reader next machine moved old now whole done refused fields before after shown is_refused
    come reads empty serves room is_shown meant in
    let all = on.so_far in
    record {
      text = text_of come.so_far.told ++ shown;
      whole = whole;
      leaves = answers_beginning settings bytes old whole (done + 1) (refused + cond is_refused 1 0) script_fault.WriteFault
          (moved, all, on.reads.begins, λ e. absurd (cc));
      meant = appends-more old now whole (text_of come.so_far.told) shown come.so_far.written meant;
      cut = part_more old now new (text_of come.so_far.told) shown come.so_far.written cut;
    }

-- the script ended before its next answer
pub ends_before : (settings : Settings) (bytes old new : Option (List ℕ)) (done refused : ℕ) (fault : ScriptFault)
    → fault ≢ script_fault.WriteFault
    → StopsAfter settings bytes old new done refused fault → IsEnd settings bytes old new done refused fault
ends_before settings bytes old new done refused fault other stops = record { stopped = λ _. stops; cut = λ e. absurd (other e) }

-- before a record is read, no more than were answered
pub stops_after : {R : Type 0} (remaining : R → Option (List ℕ)) (settings : Settings) (bytes : Option (List ℕ)) (reader : Reader R)
    (machine : State) (old new : Option (List ℕ)) (done refused : ℕ) (fault : ScriptFault)
    (come : HasCome remaining settings bytes reader machine old new done refused) → BeginRecords bytes come.so_far.records
    → fault ≢ script_fault.TooLong
    → StopsAfter settings bytes old new done refused fault
stops_after remaining settings bytes reader machine old new done refused fault come begun short =
    (machine, come.so_far, begun, λ e. absurd (short e))

-- and at the end of the text the answer to all of it
pub answers_all : (settings : Settings) (bytes : Option (List ℕ)) (machine : State) (old new : Option (List ℕ)) (done refused : ℕ)
    (counts : Counts)
    (so_far : HasAnswered settings machine old new done refused) → AreAllRecords bytes so_far.records → done ≤ MOST_RECORDS
    → ((events : List Event) → IsAfter machine events → counts
    ≡ record { records = done; refused = refused; tape = taken_by events; published = published_by events })
    → Answers settings bytes old new counts
answers_all settings bytes machine old new done refused counts so_far all few count = record {
  records = so_far.records;
  events = so_far.events;
  told = so_far.told;
  all = all;
  few = omega (arith, so_far.counted, few);
  answer = record { run = subst (λ r. IsRun r so_far.events) so_far.room so_far.stands.run; answers = so_far.answers };
  written = so_far.written;
  counted = count so_far.events so_far.stands ∙ tallied so_far.counted so_far.refusals;
}
  where
    tallied : {m n : ℕ} → length so_far.records ≡ m → count_by is_refusal so_far.told ≡ n
        → let a : Counts = record { records = m; refused = n; tape = taken_by so_far.events; published = published_by so_far.events } in a
        ≡ tally_of so_far.records so_far.events so_far.told
    tallied e f = rw (← e, ← f) refl

-- before the first record
pub comes_first : {R : Type 0} (remaining : R → Option (List ℕ)) (settings : Settings) (bytes : Option (List ℕ)) (reader : Reader R)
    (machine : State) (known : Option (List ℕ))
    → ReadsFrom remaining reader bytes [] → room_of machine ≡ room_under settings → IsAfter machine []
    → HasCome remaining settings bytes reader machine known known 0 0
unfolding AnswersFrom
comes_first remaining settings bytes reader machine known reads room stands = record {
  so_far = record {
    records = [];
    events = [];
    told = [];
    room = room;
    stands = stands;
    answers = (refl, refl);
    written = appends-none known;
    counted = refl;
    refusals = refl;
  };
  reads = reads;
}

-- nothing was read and nothing written
pub answers_nothing : (settings : Settings) (bytes known : Option (List ℕ)) (fault : ScriptFault) → fault ≢ script_fault.TooLong
    → AnswersBeginning settings bytes known known fault
unfolding AnswersFrom
answers_nothing settings bytes known fault short = record {
  records = [];
  events = [];
  told = [];
  begun = begin_none bytes;
  answer = record { run = λ place event h. absurd (cc); answers = (refl, refl) };
  written = appends-none known;
  long = λ e. absurd (short e);
}
