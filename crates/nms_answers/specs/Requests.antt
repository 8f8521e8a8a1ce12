-- A client's requests: the records of a script that look, and the answer to each. This product's own rule.
use Rattle.std.specs.Prelude.{ℕ, ◌≡◌, ◌++◌, ◌∷◌, is_none, Bool, true, false, List, [], Option, Some, None, Result, Ok, Err, if◌then◌else◌}
use Rattle.nms_quote.specs.Tape.{Tape}
use Rattle.nms_fees.specs.Settings.{Settings}
use Rattle.nms_lines.specs.Faults as line_faults
use Rattle.nms_lines.specs.Layout.{Record, field, kind_named}
use Rattle.nms_lines.specs.Text.{text_of}
use Rattle.nms_lines.specs.declared.line.Kind.{Kind}
use Rattle.nms_lines.specs.declared.line.Kind.TheVariants as kind
use Rattle.nms_lines.specs.declared.line.Line.{Line}
use Rattle.nms_lines.specs.declared.line.Line.TheVariants as line
use Rattle.nms_lines.specs.declared.line_fault.LineFault.{LineFault}
use Rattle.nms_lines.specs.declared.line_fault.LineFault.TheVariants as fault
use Rattle.nms_scripts.specs.Script.{script_reading}
use Rattle.nms_text.specs.Answers.{refusal}
use Rattle.nms_versions.specs.Taped.{Knowing}
use Rattle.nms_answers.specs.Told.{Looks, TellsBest, TellsPlan, TellsThrough}

-- the kinds that ask for a look
abbrev pub is_asked : Option Kind → Bool
is_asked (Some kind.Best) = true
is_asked (Some kind.Through) = true
is_asked (Some kind.Sweep) = true
is_asked (Some _) = false
is_asked None = false

-- what a request says: what it says in a script, if its kind asks for a look
abbrev pub request_reading : Settings → Record → Result Line LineFault
request_reading settings fields =
    if is_asked (kind_named (field fields 0)) then script_reading settings fields else Err fault.UnknownKind

-- whether a line asks for a look
abbrev pub is_look : Line → Bool
is_look (line.Best number sym) = true
is_look (line.Through number sym price) = true
is_look (line.Sweep number order) = true
is_look _ = false

-- the answer to a line, and the version that it is on; no other line is a request
abbrev pub AnswersLine : Settings → Line → Tape → List Record → Type 0
AnswersLine settings (line.Best number sym) version told = TellsBest settings number sym version told
AnswersLine settings (line.Through number sym price) version told = TellsThrough settings number sym price version told
AnswersLine settings (line.Sweep number order) version told = TellsPlan settings number order version told
AnswersLine settings _ version told = ⊥

-- the answer to a record that was read, and the version that it is on; a refusal is on none
abbrev pub AnswersReading : Settings → ℕ → Result Line LineFault → Option Tape → List Record → Type 0
AnswersReading settings number (Ok line) (Some version) told = AnswersLine settings line version told
AnswersReading settings number (Ok line) None told = ⊥
AnswersReading settings number (Err why) (Some version) told = ⊥
AnswersReading settings number (Err why) None told = told ≡ refusal number (line_faults.code_of why) ∷ []

-- the answer to the request of that number
abbrev pub AnswersRequest : Settings → ℕ → Record → Option Tape → List Record → Type 0
AnswersRequest settings number fields look told = AnswersReading settings number (request_reading settings fields) look told

-- the desk looked at that version, if any
abbrev pub Sees : Knowing → Knowing → Option Tape → Type 0
Sees old new None = new ≡ old
Sees old new (Some version) = Looks old new version

-- a request was answered: the text of its answer was appended, and whether it was refused is known
abbrev pub Answered : Settings → ℕ → Record → Knowing → Knowing → List ℕ → List ℕ → Bool → Type 0
Answered settings number fields old new before after refused =
    (look : Option Tape) × (told : List Record) × Sees old new look × AnswersRequest settings number fields look told
    × (after ≡ before ++ text_of told) × (refused ≡ is_none look)
