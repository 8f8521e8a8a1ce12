-- What the page of a symbol's day shows of a tape, of the executions of a file and of a plan's text, and what a page of executions
-- shows. This product's own rule.
use Rattle.std.specs.Prelude.{ℕ, ◌≡◌, ◌==◌, ◌&&◌, ◌||◌, Bool, List, [], ◌∷◌, filter, is_some, length, map, nat_le, not, option_copied}
use Rattle.std.specs.Prelude.{Option, Some, None, true, false, if◌then◌else◌}
use Rattle.std.specs.List.{flat_map, list_any, range_with_len}
use Rattle.nms_quote.specs.Roster.{Listing}
use Rattle.nms_quote.specs.Tape.{Tape}
use Rattle.nms_quote.specs.declared.certificate.Cut.{Cut}
use Rattle.nms_quote.specs.declared.plan.Plan.{Plan}
use Rattle.nms_fees.specs.Settings.{Settings}
use Rattle.nms_files.specs.ChangeFile.{IsFileTape}
use Rattle.nms_lines.specs.Layout.{Record}
use Rattle.nms_lines.specs.PlanReading.{plan_in, said_by}
use Rattle.nms_lines.specs.Records.{AreAllRecords}
use Rattle.nms_times.specs.Clock.{since_midnight}
use Rattle.nms_trades.specs.Files.{AreJudged}
use Rattle.nms_trades.specs.declared.clock.Timing.{Timing}
use Rattle.nms_trades.specs.declared.execution.Execution.{Execution}
use Rattle.nms_trades.specs.declared.execution_file.Refusal.{Refusal}
use Rattle.nms_trades.specs.declared.finding.Finding.{Finding}
use Rattle.nms_verdicts.specs.Explained.{EndsBy}
use Rattle.nms_verdicts.specs.Listed.{AreListed}
use Rattle.nms_verdicts.specs.declared.plan_report.Said.{Said}
use Rattle.nms_drawing.specs.Days.{last_drawn}
use Rattle.nms_drawing.specs.Page.{WritesPage}
use Rattle.nms_drawing.specs.declared.drawing.Frame.{Frame}
use Rattle.nms_drawing.specs.declared.drawing.PlanState.{PlanState}
use Rattle.nms_drawing.specs.declared.drawing.PlanState.TheVariants as state
use Rattle.nms_drawing.specs.declared.executions.judged.Judged.{Judged}
use Rattle.nms_drawing.specs.declared.executions.trades_page.Asked.{Asked}
use Rattle.nms_drawing.specs.declared.rows.Window.{Window}

-- a page of one symbol has one day
abbrev pub day_if_same : (sym place : ℕ) → Option ℕ
day_if_same sym place = if place == sym then Some 0 else None

abbrev pub days_of_symbol : (symbols sym : ℕ) → List (Option ℕ)
days_of_symbol symbols sym = flat_map (λ place. day_if_same sym place ∷ []) (range_with_len 0 symbols)

-- the times between which executions are shown, in nanoseconds: the whole day if none is given
abbrev pub since_of : Option ℕ → ℕ
since_of None = 0
since_of (Some time) = since_midnight time

abbrev pub until_of : Option ℕ → ℕ
until_of None = 18446744073709551615
until_of (Some time) = since_midnight time

-- the executions of a file, and what is found about them; none without a file
abbrev pub traded_of : Option Judged → List Execution
traded_of None = []
traded_of (Some judged) = judged.records.executions.items

abbrev pub found_of : Option Judged → List (Option Finding)
found_of None = []
found_of (Some judged) = judged.findings.items

-- a page shows what its frame asks for
pub record IsFramed (symbols last : ℕ) (frame : Frame) (sym : ℕ) (window : Window) : Type 0 where
  pub days : window.days.now ≡ days_of_symbol symbols sym
  pub times : option_copied window.times ≡ option_copied frame.times
  pub opening : window.opening ≡ frame.opening
  pub from : window.from ≡ frame.from
  pub to : window.to ≡ last
  pub since : window.since ≡ since_of frame.since
  pub until : window.until ≡ until_of frame.until
  pub timed : window.timed ≡ (is_some frame.times && not frame.own)
  pub bests : window.bests ≡ frame.bests

-- a plan is shown on its symbol's page if its version is there and is shown
abbrev pub is_shown : Window → (sym : ℕ) → Plan × Said → Bool
is_shown window sym given =
    given.0.order.sym == sym && not given.1.is_beyond && nat_le window.from given.0.version && nat_le given.0.version window.to

abbrev pub shown_plan : Window → (sym : ℕ) → Option (Plan × Said) → Option (Plan × Said)
shown_plan window sym None = None
shown_plan window sym (Some given) = if is_shown window sym given then Some given else None

abbrev pub is_shown_state : PlanState → Bool
is_shown_state state.Nothing = false
is_shown_state state.Shown = true
is_shown_state state.OtherSymbol = false
is_shown_state state.LaterVersion = false
is_shown_state state.OtherVersion = false

-- the plan of a text, judged and listed on its own version of the tape
pub record IsJudgedPlan (settings : Settings) (tape : Tape) (text : List ℕ) (given : Plan × Said) : Type 0 where
  pub cuts : List Cut
  pub read : (records : List Record) → AreAllRecords (Some text) records → plan_in settings.roster records ≡ Some (said_by given.0 cuts)
  pub ends : EndsBy settings tape given.0 cuts given.1.ending
  pub listed : AreListed settings tape given.0 given.1

-- the plan that may be given
abbrev pub IsGivenPlan : Settings → Tape → Option (List ℕ) → Option (Plan × Said) → Type 0
IsGivenPlan settings tape None given = given ≡ None
IsGivenPlan settings tape (Some text) None = ⊥
IsGivenPlan settings tape (Some text) (Some given) = IsJudgedPlan settings tape text given

-- the page of what a frame asks for was written
pub record IsFramedPage (roster : Listing) (tape : Tape) (last : ℕ) (frame : Frame) (sym : ℕ) (given : Option (Plan × Said))
    (traded : List Execution) (found : List (Option Finding)) (old new : Option (List ℕ)) : Type 0 where
  pub window : Window
  pub framed : IsFramed (length roster.syms) last frame sym window
  pub written : WritesPage roster tape window (sym ∷ []) traded found (shown_plan window sym given) old new

-- the page of a symbol's day was written, with the plan of a text, and with executions and what is found about them
pub record IsDayPage (settings : Settings) (tape : Tape) (frame : Frame) (sym : ℕ) (plan : Option (List ℕ)) (traded : List Execution)
    (found : List (Option Finding)) (old new : Option (List ℕ)) : Type 0 where
  pub given : Option (Plan × Said)
  pub planned : IsGivenPlan settings tape plan given
  pub page : IsFramedPage settings.roster tape (last_drawn frame.to tape) frame sym given traded found old new

-- the same for a file of changes
pub record IsFilePage (settings : Settings) (bytes : Option (List ℕ)) (frame : Frame) (sym : ℕ) (plan : Option (List ℕ))
    (old new : Option (List ℕ)) : Type 0 where
  pub tape : Tape
  pub file : IsFileTape settings bytes tape
  pub page : IsDayPage settings tape frame sym plan [] [] old new

-- and of a file of executions, which are judged on the changes
pub record IsTradedPage (settings : Settings) (changes bytes : Option (List ℕ)) (frame : Frame) (sym : ℕ) (plan : Option (List ℕ))
    (old new : Option (List ℕ)) : Type 0 where
  pub tape : Tape
  pub file : IsFileTape settings changes tape
  pub executions : List Execution
  pub refused : List Refusal
  pub found : List (Option Finding)
  pub judged : AreJudged settings.roster tape bytes executions refused found
  pub page : IsDayPage settings tape frame sym plan executions found old new

-- a symbol that was traded here has a day; if none was, the roster's first symbol has it
abbrev pub is_traded : List Execution → (sym : ℕ) → Bool
is_traded executions sym = list_any (λ execution. not execution.other && execution.sym == sym) executions

abbrev pub is_any_own : List Execution → Bool
is_any_own executions = list_any (λ execution. not execution.other) executions

abbrev pub has_day : List Execution → (sym : ℕ) → Bool
has_day executions sym = is_traded executions sym || (sym == 0 && not (is_any_own executions))

-- the symbols with a day, in the roster's order, and the number of each one's day
abbrev pub symbols_among : (symbols : ℕ) → (has : ℕ → Bool) → List ℕ
symbols_among symbols has = filter has (range_with_len 0 symbols)

abbrev pub day_among : (has : ℕ → Bool) → (sym : ℕ) → Option ℕ
day_among has sym = if has sym then Some (length (symbols_among sym has)) else None

abbrev pub days_among : (symbols : ℕ) → (has : ℕ → Bool) → List (Option ℕ)
days_among symbols has = map (day_among has) (range_with_len 0 symbols)

abbrev pub times_in : Option Timing → Option (List ℕ)
times_in None = None
times_in (Some timing) = Some timing.times.now

-- a page of the executions of a file shows all of the tape, with times if versions are found by them
pub record IsOfAll (symbols : ℕ) (tape : Tape) (executions : List Execution) (timing : Option Timing) (asked : Asked)
    (window : Window) : Type 0 where
  pub days : window.days.now ≡ days_among symbols (has_day executions)
  pub times : option_copied window.times ≡ times_in timing
  pub opening : window.opening ≡ 0
  pub from : window.from ≡ 0
  pub to : window.to ≡ length tape
  pub since : window.since ≡ 0
  pub until : window.until ≡ 18446744073709551615
  pub timed : window.timed ≡ is_some timing
  pub bests : window.bests ≡ asked.bests

-- it was written, with the days of the symbols that were traded
pub record IsTradesPage (roster : Listing) (tape : Tape) (timing : Option Timing) (asked : Asked) (executions : List Execution)
    (found : List (Option Finding)) (old new : Option (List ℕ)) : Type 0 where
  pub window : Window
  pub all : IsOfAll (length roster.syms) tape executions timing asked window
  pub page : WritesPage roster tape window (symbols_among (length roster.syms) (has_day executions)) executions found None old new

-- the same for a file of changes and a file of executions
pub record IsTradesFilePage (settings : Settings) (changes bytes : Option (List ℕ)) (timing : Option Timing) (asked : Asked)
    (old new : Option (List ℕ)) : Type 0 where
  pub tape : Tape
  pub file : IsFileTape settings changes tape
  pub executions : List Execution
  pub refused : List Refusal
  pub found : List (Option Finding)
  pub judged : AreJudged settings.roster tape bytes executions refused found
  pub page : IsTradesPage settings.roster tape timing asked executions found old new
