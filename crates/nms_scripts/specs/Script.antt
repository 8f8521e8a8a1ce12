-- The answer to a script: a run of the machine whose steps are those that the records ask for, in order, and the
-- records of its answers. This product's own rule.
use Rattle.std.specs.Prelude.{ℕ, ◌≡◌, ◌≢◌, ◌≤◌, ◌+◌, All, Bool, true, List, [], ◌∷◌, ◌++◌, length, Option, Some, Result, Ok, Err, count_by}
use Rattle.std.specs.Prelude.{codes, if◌then◌else◌}
use Rattle.std.specs.Str.{bytes_eq}
use Rattle.std.specs.Io.KnownBytes.{Appends}
use Rattle.nms_quote.specs.Roster.{Listing, feed_of_change}
use Rattle.nms_quote.specs.declared.change.Change.{Change}
use Rattle.nms_quote.specs.declared.feed.Feed.{Feed}
use Rattle.nms_quote.specs.declared.side_quote.Side.TheVariants.{Bid, Offer}
use Rattle.nms_board.specs.View.{Seen, rows_on}
use Rattle.nms_board.specs.declared.row.Row.{Row}
use Rattle.nms_nbbo.specs.Best.{IsBestOf}
use Rattle.nms_fees.specs.Settings.{Settings}
use Rattle.nms_lines.specs.Faults as line_faults
use Rattle.nms_lines.specs.Layout.{Record, field}
use Rattle.nms_lines.specs.Lines.{reading}
use Rattle.nms_lines.specs.Records.{AreAllRecords, BeginRecords}
use Rattle.nms_lines.specs.Text.{text_of}
use Rattle.nms_lines.specs.Written.{WritesPart}
use Rattle.nms_lines.specs.declared.line.Line.{Line}
use Rattle.nms_lines.specs.declared.line.Line.TheVariants as line
use Rattle.nms_lines.specs.declared.line.Reading.TheVariants as source
use Rattle.nms_lines.specs.declared.line_fault.LineFault.{LineFault}
use Rattle.nms_quote.specs.Terms.{Terms}
use Rattle.nms_quote.specs.declared.plan.Plan.{Plan}
use Rattle.nms_quote.specs.declared.certificate.Cut.{Cut}
use Rattle.nms_lines.specs.PlanText.{plan_records}
use Rattle.nms_rules.specs.Accepted.{IsAccepted}
use Rattle.nms_rules.specs.Through.{traded_through_at}
use Rattle.nms_flow.specs.Flow.{State, IsAfter, room_under}
use Rattle.nms_flow.specs.Run.{Answer, Event, IsRun, published_by, taken_by, took}
use Rattle.nms_flow.specs.declared.step.Step.{Step}
use Rattle.nms_flow.specs.declared.step.Step.TheVariants as step
use Rattle.nms_flow.specs.declared.reply.Reply.TheVariants as reply
use Rattle.nms_flow.specs.declared.step_fault.StepFault.TheVariants as fault
use Rattle.nms_text.specs.Answers.{refusal, best_record, through_records}
use Rattle.nms_scripts.specs.Told.{told_by}
use Rattle.nms_scripts.specs.declared.TheConstants.{MOST_RECORDS}
use Rattle.nms_scripts.specs.declared.counts.Counts.{Counts}
use Rattle.nms_text.specs.declared.script_fault.ScriptFault.{ScriptFault}
use Rattle.nms_text.specs.declared.script_fault.ScriptFault.TheVariants as script_fault

-- what a record of a script says
abbrev pub script_reading : Settings → Record → Result Line LineFault
script_reading settings fields = reading settings.roster (source.Script settings.desks) fields

-- one step, and its answer. Out of memory is no answer: it ends the script
abbrev pub AsksOne : ℕ → Step → List Event → List Record → Type 0
AsksOne number asked events told = (answer : Answer) × (answer ≢ Err fault.NoMemory) × (events ≡ (asked, answer) ∷ [])
    × (told ≡ told_by number answer)

-- a change is sent on the feed that it belongs to
abbrev pub Sends : Listing → ℕ → Change → List Event → List Record → Type 0
Sends roster number change events told =
    (feed : Feed) × (feed_of_change roster change ≡ Some feed) × AsksOne number (step.Send feed change) events told

-- taking all: changes are taken until the queue is empty, and the tape is published. A full tape ends it
abbrev pub TakesAll : Answer → List Event → Type 0
TakesAll (Ok reply) events =
    (takes : List Event) × All (λ event. took event ≡ true) takes
    × (events ≡ takes ++ (step.Take, Err fault.QueueEmpty) ∷ (step.Publish, Ok reply) ∷ [])
TakesAll (Err fault.TapeFull) events = (takes : List Event) × All (λ event. took event ≡ true) takes
    × (events ≡ takes ++ (step.Take, Err fault.TapeFull) ∷ [])
TakesAll (Err _) events = ⊥

-- all was taken and published, or the tape was full
abbrev pub AsksAll : ℕ → List Event → List Record → Type 0
AsksAll number events told = (answer : Answer) × TakesAll answer events × (told ≡ told_by number answer)

-- a desk looked, and its answer is the best bid and the best offer of what it saw
abbrev pub ShowsBest : Listing → ℕ → ℕ → List Event → List Record → Type 0
ShowsBest roster desk sym events told =
    (seen : Seen) × (bid offer : Option Row) × (events ≡ (step.Look desk sym, Ok (reply.Seen seen)) ∷ [])
    × IsBestOf Bid (rows_on Bid seen) bid × IsBestOf Offer (rows_on Offer seen) offer
    × (told ≡ best_record roster desk seen bid offer ∷ [])

-- a desk looked, and its answer is the protected quotations that a trade at the price trades through (17 CFR 242.611)
abbrev pub ShowsThrough : Listing → ℕ → ℕ → ℕ → List Event → List Record → Type 0
ShowsThrough roster desk sym price events told =
    (seen : Seen) × (events ≡ (step.Look desk sym, Ok (reply.Seen seen)) ∷ [])
    × (told ≡ through_records roster desk seen price (traded_through_at seen price))

-- a desk looked, and its answer is a plan of what it saw with a certificate that is accepted there: no lawful plan
-- fills more, or as much for less with fees (17 CFR 242.600, "intermarket sweep order")
abbrev pub ShowsPlan : Settings → ℕ → Terms → List Event → List Record → Type 0
ShowsPlan settings desk order events told =
    (seen : Seen) × (plan : Plan) × (cuts : List Cut) × (events ≡ (step.Look desk order.sym, Ok (reply.Seen seen)) ∷ [])
    × IsAccepted seen order settings.fees plan cuts × (told ≡ plan_records settings.roster plan cuts)

-- a refused record asks for no step
abbrev pub IsRefused : ℕ → LineFault → List Event → List Record → Type 0
IsRefused number fault events told = (events ≡ []) × (told ≡ refusal number (line_faults.code_of fault) ∷ [])

-- the steps that a line asks for, each with an answer, and the records of these answers
abbrev pub AnswersLine : Settings → ℕ → Line → List Event → List Record → Type 0
AnswersLine settings number (line.Change change) events told = Sends settings.roster number change events told
AnswersLine settings number line.TakeOne events told = AsksOne number step.Take events told
AnswersLine settings number line.TakeAll events told = AsksAll number events told
AnswersLine settings number line.Publish events told = AsksOne number step.Publish events told
AnswersLine settings number (line.Tell desk) events told = AsksOne number (step.Tell desk) events told
AnswersLine settings number (line.Best desk sym) events told = ShowsBest settings.roster desk sym events told
AnswersLine settings number (line.Through desk sym price) events told = ShowsThrough settings.roster desk sym price events told
AnswersLine settings number (line.Sweep desk order) events told = ShowsPlan settings desk order events told

abbrev pub AnswersReading : Settings → ℕ → Result Line LineFault → List Event → List Record → Type 0
AnswersReading settings number (Err fault) events told = IsRefused number fault events told
AnswersReading settings number (Ok line) events told = AnswersLine settings number line events told

abbrev pub AnswersRecord : Settings → ℕ → Record → List Event → List Record → Type 0
AnswersRecord settings number fields events told = AnswersReading settings number (script_reading settings fields) events told

-- the records in order, numbered from the given number on
unfoldable pub AnswersFrom : Settings → ℕ → List Record → List Event → List Record → Type 0
AnswersFrom settings number [] events told = (events ≡ []) × (told ≡ [])
AnswersFrom settings number (fields ∷ records) events told =
    (first rest : List Event) × (now later : List Record) × (events ≡ first ++ rest) × (told ≡ now ++ later)
    × AnswersRecord settings number fields first now × AnswersFrom settings (number + 1) records rest later

-- the answer to these records: a run from the start, and the records of its answers
pub record IsScriptAnswer (settings : Settings) (records : List Record) (events : List Event) (told : List Record) : Type 0 where
  pub run : IsRun (room_under settings) events
  pub answers : AnswersFrom settings 1 records events told

-- whether a record refuses one of the script
abbrev pub is_refusal : Record → Bool
is_refusal fields = bytes_eq (codes "ERR") (field fields 0)

-- how many records there were and how many were refused, the tape's length, and the published version
abbrev pub tally_of : List Record → List Event → List Record → Counts
tally_of records events told = record {
  records = length records;
  refused = count_by is_refusal told;
  tape = taken_by events;
  published = published_by events;
}

-- n came first, and the text has one more
abbrev pub IsTooLong : Option (List ℕ) → List Record → Type 0
IsTooLong bytes records = (length records ≡ MOST_RECORDS) × (next : Record) × BeginRecords bytes (records ++ next ∷ [])

-- a script that ran to its end: what was written is the answer to all records of the text, and nothing else
pub record Answers (settings : Settings) (bytes old new : Option (List ℕ)) (counts : Counts) : Type 0 where
  pub records : List Record
  pub events : List Event
  pub told : List Record
  pub all : AreAllRecords bytes records
  pub few : length records ≤ MOST_RECORDS
  pub answer : IsScriptAnswer settings records events told
  pub written : Appends old new (text_of told)
  pub counted : counts ≡ tally_of records events told

-- a script that ended early: what was written is the answer to the first records of the text
pub record AnswersBeginning (settings : Settings) (bytes old new : Option (List ℕ)) (fault : ScriptFault) : Type 0 where
  pub records : List Record
  pub events : List Event
  pub told : List Record
  pub begun : BeginRecords bytes records
  pub answer : IsScriptAnswer settings records events told
  pub written : Appends old new (text_of told)
  pub long : fault ≡ script_fault.TooLong → IsTooLong bytes records

-- a script whose writer failed: what was written is a prefix of the answer to the first records of the text
abbrev pub AnswersInPart : Settings → (bytes old new : Option (List ℕ)) → Type 0
AnswersInPart settings bytes old new = WritesPart (λ whole. AnswersBeginning settings bytes old whole script_fault.WriteFault) old new

-- the machine went on by events with these answers, and the records of the answers were added to the text. Whether the
-- record was refused is returned too
abbrev pub Serves : (List Event → List Record → Type 0) → State → State → Option (List ℕ) → Option (List ℕ) → Bool → Type 0
Serves Asked old new text_before text_after refused =
    (before : List Event) → IsAfter old before → (events : List Event) × (told : List Record) × Asked events told
    × IsAfter new (before ++ events)
    × Appends text_before text_after (text_of told) × (count_by is_refusal told ≡ (if refused then 1 else 0))
