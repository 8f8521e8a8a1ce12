-- What a record of a script sends: one change at most.
use Rattle.std.proofs.Common.{arith, ℕ, zero, suc, ◌≡◌, ◌≤◌, ◌+◌, ◌++◌, Bool, true, false, cond, All, List, [], ◌∷◌, refl, sym, ap, ◌∙◌}
use Rattle.std.proofs.Common.{inl, inr, length, map, Option, Some, None, Ok, Err, Result, slice_get}
use Rattle.std.specs.Prelude.{◌⊎◌}
use Rattle.std.proofs.lemmas.List.{append-nil}
use Rattle.std.proofs.lemmas.List.Elements.{All-head, All-tail, filter_map-append}
use Rattle.nms_fees.specs.Settings.{Settings}
use Rattle.nms_quote.specs.declared.change.Change.{Change}
use Rattle.nms_quote.specs.declared.marked.Marked.{Marked}
use Rattle.nms_lines.specs.Layout.{Record}
use Rattle.nms_lines.specs.declared.line.Line.{Line}
use Rattle.nms_lines.specs.declared.line.Line.TheVariants as line
use Rattle.nms_lines.specs.declared.line_fault.LineFault.{LineFault}
use Rattle.nms_flow.specs.Run.{Answer, Event, sent_by, sent_in, taken_by, took}
use Rattle.nms_flow.specs.declared.step.Step.{Step}
use Rattle.nms_flow.specs.declared.step.Step.TheVariants as step
use Rattle.nms_flow.specs.declared.step_fault.StepFault.TheVariants as fault
use Rattle.nms_scripts.specs.Script.{AnswersLine, AnswersReading, AnswersRecord, TakesAll, script_reading}

-- nothing is sent, or one change is and none taken
abbrev pub SendsOne : List Event → Type 0
SendsOne events = (sent_by events ≡ []) ⊎ ((marked : Marked) × (sent_by events ≡ marked ∷ []) × (taken_by events ≡ 0))

-- an event that takes a change sends none
unsent : (asked : Step) (answer : Answer) → took (asked, answer) ≡ true → sent_in (asked, answer) ≡ None
unsent (step.Send feed change) (Ok r) is = absurd (cc)
unsent step.Take (Ok r) is = refl
unsent step.Publish (Ok r) is = refl
unsent (step.Tell desk) (Ok r) is = refl
unsent (step.Look desk symbol) (Ok r) is = refl
unsent (step.Send feed change) (Err e) is = refl
unsent step.Take (Err e) is = refl
unsent step.Publish (Err e) is = refl
unsent (step.Tell desk) (Err e) is = refl
unsent (step.Look desk symbol) (Err e) is = refl

all_unsent : (takes : List Event) → All (λ event. took event ≡ true) takes → sent_by takes ≡ []
all_unsent [] all = refl
all_unsent (event ∷ takes) all =
    rw (unsent event.0 event.1 (All-head (λ (e : Event). took e ≡ true) event takes all))
    (all_unsent takes (All-tail (λ (e : Event). took e ≡ true) event takes all))

-- takings and what follows them
then_unsent : (takes more events : List Event) → All (λ event. took event ≡ true) takes → sent_by more ≡ [] → events ≡ takes ++ more
    → sent_by events ≡ []
then_unsent takes more events all none is =
    ap sent_by is ∙ filter_map-append sent_in takes more ∙ ap (λ (ms : List Marked). ms ++ sent_by more) (all_unsent takes all) ∙ none

all_sends : (answer : Answer) (events : List Event) → TakesAll answer events → SendsOne events
all_sends (Ok r) events (takes, all, is) = inl (then_unsent takes _ events all refl is)
all_sends (Err fault.TapeFull) events (takes, all, is) = inl (then_unsent takes _ events all refl is)
all_sends (Err fault.QueueFull) events nothing = absurd nothing
all_sends (Err fault.QueueEmpty) events nothing = absurd nothing
all_sends (Err fault.NoMemory) events nothing = absurd nothing

-- one event
one_sends : (asked : Step) (answer : Answer) (events : List Event) → events ≡ (asked, answer) ∷ [] → SendsOne events
one_sends (step.Send feed change) (Ok r) events is = inr (record { feed = feed; change = change }, ap sent_by is, ap taken_by is)
one_sends step.Take (Ok r) events is = inl (ap sent_by is)
one_sends step.Publish (Ok r) events is = inl (ap sent_by is)
one_sends (step.Tell desk) (Ok r) events is = inl (ap sent_by is)
one_sends (step.Look desk symbol) (Ok r) events is = inl (ap sent_by is)
one_sends (step.Send feed change) (Err e) events is = inl (ap sent_by is)
one_sends step.Take (Err e) events is = inl (ap sent_by is)
one_sends step.Publish (Err e) events is = inl (ap sent_by is)
one_sends (step.Tell desk) (Err e) events is = inl (ap sent_by is)
one_sends (step.Look desk symbol) (Err e) events is = inl (ap sent_by is)

line_sends : (settings : Settings) (number : ℕ) (said : Line) (events : List Event) (told : List Record)
    → AnswersLine settings number said events told → SendsOne events
line_sends settings number (line.Change change) events told (feed, of, (answer, some, is, tells)) = one_sends _ answer events is
line_sends settings number line.TakeOne events told (answer, some, is, tells) = one_sends _ answer events is
line_sends settings number line.TakeAll events told (answer, takes, tells) = all_sends answer events takes
line_sends settings number line.Publish events told (answer, some, is, tells) = one_sends _ answer events is
line_sends settings number (line.Tell desk) events told (answer, some, is, tells) = one_sends _ answer events is
line_sends settings number (line.Best desk symbol) events told shows = one_sends _ _ events shows.3
line_sends settings number (line.Through desk symbol price) events told (seen, is, tells) = one_sends _ _ events is
line_sends settings number (line.Sweep desk order) events told shows = one_sends _ _ events shows.3

reading_sends : (settings : Settings) (number : ℕ) (read : Result Line LineFault) (events : List Event) (told : List Record)
    → AnswersReading settings number read events told → SendsOne events
reading_sends settings number (Ok said) events told answers = line_sends settings number said events told answers
reading_sends settings number (Err e) events told (none, tells) = inl (ap sent_by none)

pub record_sends : (settings : Settings) (number : ℕ) (fields : Record) (events : List Event) (told : List Record)
    → AnswersRecord settings number fields events told → SendsOne events
record_sends settings number fields events told answers =
    reading_sends settings number (script_reading settings fields) events told answers
