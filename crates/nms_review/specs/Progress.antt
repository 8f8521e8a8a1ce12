-- How far the reading of a script's tape has come between two records. This product's own rule.
use Rattle.std.specs.Prelude.{ℕ, ◌≡◌, List, length, Option}
use Rattle.csv.specs.declared.reader.Reader.{Reader}
use Rattle.nms_quote.specs.declared.change.Change.{Change}
use Rattle.nms_fees.specs.Settings.{Settings}
use Rattle.nms_lines.specs.Layout.{Record}
use Rattle.nms_lines.specs.Records.{AreAllRecords, ReadsFrom}
use Rattle.nms_flow.specs.Flow.{State, IsAfter, room_of, room_under}
use Rattle.nms_flow.specs.Run.{Event, changes_in, sent_by}
use Rattle.nms_scripts.specs.Script.{AnswersFrom}

-- n records were answered, and these are the changes that were sent
pub record HasSent (settings : Settings) (machine : State) (sent : List Change) (done : ℕ) : Type 0 where
  pub records : List Record
  pub events : List Event
  pub told : List Record
  pub room : room_of machine ≡ room_under settings
  pub stands : IsAfter machine events
  pub answers : AnswersFrom settings 1 records events told
  pub counted : length records ≡ done
  pub changes : sent ≡ changes_in (sent_by events)

-- those are the records that were read, and the reader is after them
pub record HasRead {R : Type 0} (remaining : R → Option (List ℕ)) (settings : Settings) (bytes : Option (List ℕ)) (reader : Reader R)
    (machine : State) (sent : List Change) (done : ℕ) : Type 0 where
  pub so_far : HasSent settings machine sent done
  pub reads : ReadsFrom remaining reader bytes so_far.records

-- those are all records of the text
abbrev pub HasReadAll : Settings → Option (List ℕ) → State → List Change → ℕ → Type 0
HasReadAll settings bytes machine sent done = (so_far : HasSent settings machine sent done) × AreAllRecords bytes so_far.records
