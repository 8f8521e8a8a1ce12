-- The laws about a client's answers: they are a script's, and its epochs never fall. This product's own rule.
use Rattle.std.specs.Prelude.{ℕ, ◌≡◌, ◌++◌, ◌∷◌, List, [], true, Option, Some, None}
use Rattle.std.specs.List.{AllByRecursion}
use Rattle.nms_quote.specs.Tape.{Tape}
use Rattle.nms_fees.specs.Settings.{Settings}
use Rattle.nms_lines.specs.Layout.{Record, field, kind_named}
use Rattle.nms_flow.specs.Run.{Event}
use Rattle.nms_scripts.specs.Script as script
use Rattle.nms_answers.specs.Requests.{is_asked}
use Rattle.nms_answers.specs.Epochs.{KeepsEpochs}
use Rattle.nms_answers.specs.Streams.{AnswersFrom, ServesFrom}
use Rattle.nms_answers.specs.Told.{look_at}
use Rattle.nms_answers.specs.declared.epoch_desk.EpochDesk.{EpochDesk}

-- a record of a kind that asks for a look
abbrev pub IsAsked : Record → Type 0
IsAsked fields = is_asked (kind_named (field fields 0)) ≡ true

-- the steps of a script's machine are looks at these versions, in order, and no others
abbrev pub AreLooksAt : Settings → List (Option Tape) → List Event → Type 0
AreLooksAt settings [] events = events ≡ []
AreLooksAt settings (None ∷ looks) events = AreLooksAt settings looks events
AreLooksAt settings (Some version ∷ looks) events =
    (number sym : ℕ) × (rest : List Event) × (events ≡ look_at settings number sym version ++ rest) × AreLooksAt settings looks rest

-- a client whose records are all of the kinds that ask for a look gets the answers of a script of these records, if each of the
-- script's looks sees the version that the client's answer is on
abbrev pub AnswersAsAScript : Type 0
AnswersAsAScript = (settings : Settings) (number : ℕ) (requests : List Record) (looks : List (Option Tape)) (told : List Record)
    → AllByRecursion IsAsked requests → AnswersFrom settings number requests looks told
    → (events : List Event) × script.AnswersFrom settings number requests events told × AreLooksAt settings looks events

-- a client that goes over from epoch to epoch gets the same answers as in one epoch
abbrev pub ServesAsAnswers : Type 0
ServesAsAnswers = (settings : Settings) (number : ℕ) (requests : List Record) (old new : EpochDesk) (looks : List (Option Tape))
    (told shown : List Record)
    → ServesFrom settings number requests old new looks told shown → AnswersFrom settings number requests looks told

-- its epochs never fall, and in one epoch each version begins with all that it saw before
abbrev pub EpochsNeverFall : Type 0
EpochsNeverFall = (settings : Settings) (number : ℕ) (requests : List Record) (old new : EpochDesk) (looks : List (Option Tape))
    (told shown : List Record)
    → ServesFrom settings number requests old new looks told shown → KeepsEpochs old new
