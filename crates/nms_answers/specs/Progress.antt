-- How far a client's stream has come between two requests.
use Rattle.std.specs.Prelude.{ℕ, ◌≡◌, ◌≢◌, ◌+◌, List, count_by, is_none, length, Option, Result, Ok, Err, if◌then◌else◌}
use Rattle.csv.specs.declared.reader.Reader.{Reader}
use Rattle.nms_fees.specs.Settings.{Settings}
use Rattle.nms_lines.specs.Layout.{Record}
use Rattle.nms_lines.specs.Records.{AreAllRecords, ReadsFrom}
use Rattle.nms_answers.specs.Streams.{AnswersFirst, AnswersInPart, AreAnswered}
use Rattle.nms_answers.specs.declared.answer_fault.AnswerFault.{AnswerFault}
use Rattle.nms_answers.specs.declared.answer_fault.AnswerFault.TheVariants as fault
use Rattle.nms_answers.specs.declared.epoch_desk.EpochDesk.{EpochDesk}
use Rattle.nms_answers.specs.declared.request_stream.Progress.{Progress}
use Rattle.nms_answers.specs.declared.request_stream.Progress.TheVariants as progress

-- n requests were read and answered, m of them refused, and the reader is after them
pub record HasCome {R : Type 0} (remaining : R → Option (List ℕ)) (settings : Settings) (bytes : Option (List ℕ)) (reader : Reader R)
    (first now : EpochDesk) (before after : Option (List ℕ)) (done refused : ℕ) : Type 0 where
  pub requests : List Record
  pub reads : ReadsFrom remaining reader bytes requests
  pub answered : AreAnswered settings requests first now before after
  pub counted : length requests ≡ done
  pub looked : length answered.looks ≡ done
  pub refusals : count_by is_none answered.looks ≡ refused

-- a fault ended the stream there, or the writer's failure within the last answer
pub record IsEnd (settings : Settings) (bytes : Option (List ℕ)) (first now : EpochDesk) (before after : Option (List ℕ))
    (why : AnswerFault) : Type 0 where
  pub stopped : why ≢ fault.WriteFault → AnswersFirst settings bytes first now before after
  pub cut : why ≡ fault.WriteFault → AnswersInPart settings bytes first now before after

-- the state after one more request
abbrev pub AdvancesTo : {R : Type 0} (remaining : R → Option (List ℕ)) (settings : Settings) (bytes : Option (List ℕ)) (reader : Reader R)
    (first now : EpochDesk) (before after : Option (List ℕ)) (done refused : ℕ) → Result Progress AnswerFault → Type 0
AdvancesTo remaining settings bytes reader first now before after done refused (Ok (progress.Answered more)) =
    HasCome remaining settings bytes reader first now before after (done + 1) (refused + (if more then 1 else 0))
AdvancesTo remaining settings bytes reader first now before after done refused (Ok progress.Ended) =
    (requests : List Record) × (answered : AreAnswered settings requests first now before after) × AreAllRecords bytes requests
    × (length answered.looks ≡ done) × (count_by is_none answered.looks ≡ refused)
AdvancesTo remaining settings bytes reader first now before after done refused (Err why) =
    IsEnd settings bytes first now before after why
