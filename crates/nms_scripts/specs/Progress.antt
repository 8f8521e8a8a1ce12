-- How far a script has come between two records.
use Rattle.std.specs.Prelude.{ℕ, ◌≡◌, ◌≢◌, ◌+◌, List, length, count_by, Option, Result, Ok, Err, if◌then◌else◌}
use Rattle.std.specs.Io.KnownBytes.{Appends}
use Rattle.csv.specs.declared.reader.Reader.{Reader}
use Rattle.nms_lines.specs.Layout.{Record}
use Rattle.nms_lines.specs.Records.{AreAllRecords, BeginRecords, ReadsFrom}
use Rattle.nms_text.specs.declared.script_fault.ScriptFault.{ScriptFault}
use Rattle.nms_text.specs.declared.script_fault.ScriptFault.TheVariants as script_fault
use Rattle.nms_scripts.specs.declared.script.Progress.{Progress}
use Rattle.nms_scripts.specs.declared.script.Progress.TheVariants as progress
use Rattle.nms_lines.specs.Text.{text_of}
use Rattle.nms_flow.specs.Flow.{State, IsAfter, room_of, room_under}
use Rattle.nms_fees.specs.Settings.{Settings}
use Rattle.nms_flow.specs.Run.{Event}
use Rattle.nms_scripts.specs.Script.{AnswersFrom, AnswersInPart, IsTooLong, is_refusal}

-- n records were answered, m of them refused, and the answers were written
pub record HasAnswered (settings : Settings) (machine : State) (old new : Option (List ℕ)) (done refused : ℕ) : Type 0 where
  pub records : List Record
  pub events : List Event
  pub told : List Record
  pub room : room_of machine ≡ room_under settings
  pub stands : IsAfter machine events
  pub answers : AnswersFrom settings 1 records events told
  pub written : Appends old new (text_of told)
  pub counted : length records ≡ done
  pub refusals : count_by is_refusal told ≡ refused

-- those are the records that were read, and the reader is after them
pub record HasCome {R : Type 0} (remaining : R → Option (List ℕ)) (settings : Settings) (bytes : Option (List ℕ)) (reader : Reader R)
    (machine : State) (old new : Option (List ℕ)) (done refused : ℕ) : Type 0 where
  pub so_far : HasAnswered settings machine old new done refused
  pub reads : ReadsFrom remaining reader bytes so_far.records

-- a fault ended the script there: the answers to all those records were written, and nothing else
abbrev pub StopsAfter : (settings : Settings) (bytes old new : Option (List ℕ)) (done refused : ℕ) → ScriptFault → Type 0
StopsAfter settings bytes old new done refused fault =
    (last : State) × (so_far : HasAnswered settings last old new done refused) × BeginRecords bytes so_far.records
    × (fault ≡ script_fault.TooLong → IsTooLong bytes so_far.records)

-- a fault ended the script there, or the writer's failure within the last answer
pub record IsEnd (settings : Settings) (bytes old new : Option (List ℕ)) (done refused : ℕ) (fault : ScriptFault) : Type 0 where
  pub stopped : fault ≢ script_fault.WriteFault → StopsAfter settings bytes old new done refused fault
  pub cut : fault ≡ script_fault.WriteFault → AnswersInPart settings bytes old new

-- the point that one record more leads to
abbrev pub AdvancesTo : {R : Type 0} (remaining : R → Option (List ℕ)) (settings : Settings) (bytes : Option (List ℕ)) (reader : Reader R)
    (machine : State) (old new : Option (List ℕ)) (done refused : ℕ) → Result Progress ScriptFault → Type 0
AdvancesTo remaining settings bytes reader machine old new done refused (Ok (progress.Answered more)) =
    HasCome remaining settings bytes reader machine old new (done + 1) (refused + (if more then 1 else 0))
AdvancesTo remaining settings bytes reader machine old new done refused (Ok progress.Ended) =
    (so_far : HasAnswered settings machine old new done refused) × AreAllRecords bytes so_far.records
AdvancesTo remaining settings bytes reader machine old new done refused (Err fault) = IsEnd settings bytes old new done refused fault
