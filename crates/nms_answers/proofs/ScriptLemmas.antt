-- A client's answers are a script's.
use Rattle.std.proofs.Common.{ℕ, ◌+◌, ◌++◌, Bool, cond, List, [], ◌∷◌, Option, Some, None, Result, Ok, Err, refl, ap, sym, subst}
use Rattle.nms_quote.specs.Tape.{Tape}
use Rattle.nms_fees.specs.Settings.{Settings}
use Rattle.nms_lines.specs.Layout.{Record}
use Rattle.nms_lines.specs.declared.line.Line.{Line}
use Rattle.nms_lines.specs.declared.line.Line.TheVariants as line
use Rattle.nms_lines.specs.declared.line_fault.LineFault.{LineFault}
use Rattle.nms_lines.specs.declared.line_fault.LineFault.TheVariants as fault
use Rattle.nms_flow.specs.Run.{Event}
use Rattle.nms_scripts.specs.Script.{script_reading}
use Rattle.nms_scripts.specs.Script as script
use Rattle.nms_answers.specs.Laws.{AnswersAsAScript, AreLooksAt, IsAsked}
use Rattle.nms_answers.specs.Requests.{AnswersReading, AnswersRequest}
use Rattle.nms_answers.specs.Streams.{AnswersFrom}
use Rattle.nms_answers.specs.Told.{look_at}

-- the steps for one request, which come before those of the looks after it
abbrev OneRequest : Settings → ℕ → Result Line LineFault → Option Tape → List Record → Type 0
OneRequest settings number read look told = (events : List Event) × script.AnswersReading settings number read events told
    × ((looks : List (Option Tape)) (rest : List Event) → AreLooksAt settings looks rest
    → AreLooksAt settings (look ∷ looks) (events ++ rest))

read_as_script : (settings : Settings) (number : ℕ) (read : Result Line LineFault) (look : Option Tape) (told : List Record)
    → AnswersReading settings number read look told → OneRequest settings number read look told
read_as_script settings number (Ok (line.Best desk sym)) (Some version) told is =
    (look_at settings desk sym version, is, λ looks rest are. (desk, sym, rest, refl, are))
read_as_script settings number (Ok (line.Through desk sym price)) (Some version) told is =
    (look_at settings desk sym version, is, λ looks rest are. (desk, sym, rest, refl, are))
read_as_script settings number (Ok (line.Sweep desk order)) (Some version) told is =
    (look_at settings desk order.sym version, is, λ looks rest are. (desk, order.sym, rest, refl, are))
read_as_script settings number (Ok (line.Change change)) (Some version) told is = absurd is
read_as_script settings number (Ok line.TakeOne) (Some version) told is = absurd is
read_as_script settings number (Ok line.TakeAll) (Some version) told is = absurd is
read_as_script settings number (Ok line.Publish) (Some version) told is = absurd is
read_as_script settings number (Ok (line.Tell desk)) (Some version) told is = absurd is
read_as_script settings number (Ok said) None told is = absurd is
read_as_script settings number (Err why) (Some version) told is = absurd is
read_as_script settings number (Err why) None told is = ([], (refl, is), λ looks rest are. are)

request_as_script : (settings : Settings) (number : ℕ) (fields : Record) (look : Option Tape) (told : List Record) → IsAsked fields
    → AnswersRequest settings number fields look told → OneRequest settings number (script_reading settings fields) look told
request_as_script settings number fields look told asked is =
    read_as_script settings number (script_reading settings fields) look told
    (subst (λ (read : Result Line LineFault). AnswersReading settings number read look told)
    (ap (λ (b : Bool). cond b (script_reading settings fields) (Err fault.UnknownKind)) asked) is)

pub stream_as_script : AnswersAsAScript
unfolding AnswersFrom script.AnswersFrom
stream_as_script settings number [] looks told asked are = ([], (refl, are.1), rw are.0 refl)
stream_as_script settings number (fields ∷ requests) looks told asked are =
    let first = request_as_script settings number fields are.0 are.2 asked.0 are.6 in
    let rest = stream_as_script settings (number + 1) requests are.1 are.3 asked.1 are.7 in (
      first.0 ++ rest.0,
      (first.0, rest.0, are.2, are.3, refl, are.5, first.1, rest.1),
      subst (λ (l : List (Option Tape)). AreLooksAt settings l (first.0 ++ rest.0)) (sym are.4) (first.2 are.1 rest.0 rest.2),
    )
