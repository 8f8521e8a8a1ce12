-- Pages that were written: those of a frame, of a day, of a file of changes, and of executions.
use Rattle.std.proofs.Common.{ℕ, ◌≡◌, ◌∷◌, [], Bool, List, Option, None, Some, is_some, length, refl, subst, if◌then◌else◌, true, false}
use Rattle.std.specs.Prelude.{Err, Ok, OnOk, Result}
use Rattle.nms_quote.specs.Roster.{Listing}
use Rattle.nms_quote.specs.Tape.{Tape}
use Rattle.nms_quote.specs.declared.plan.Plan.{Plan}
use Rattle.nms_fees.specs.Settings.{Settings}
use Rattle.nms_files.specs.ChangeFile.{IsFileTape}
use Rattle.nms_trades.specs.Files.{AreJudged}
use Rattle.nms_trades.specs.declared.execution.Execution.{Execution}
use Rattle.nms_trades.specs.declared.execution_file.Refusal.{Refusal}
use Rattle.nms_trades.specs.declared.finding.Finding.{Finding}
use Rattle.nms_verdicts.specs.declared.plan_report.Said.{Said}
use Rattle.nms_drawing.specs.Days.{last_drawn}
use Rattle.nms_drawing.specs.Drawn.{IsDayPage, IsFilePage, IsFramed, IsFramedPage, IsGivenPlan, IsTradedPage, is_shown, shown_plan}
use Rattle.nms_drawing.specs.Page.{WritesPage}
use Rattle.nms_drawing.specs.declared.drawing.Frame.{Frame}
use Rattle.nms_drawing.specs.declared.rows.Window.{Window}

-- a plan that is taken if it is shown is the one that is shown
taken_if : (shown : Bool) (given : Plan × Said)
    → (if is_some (if shown then Some given else None) then Some given else None) ≡ (if shown then Some given else None)
taken_if true given = refl
taken_if false given = refl

pub taken_if_shown : (window : Window) (sym : ℕ) (given : Option (Plan × Said))
    → (if is_some (shown_plan window sym given) then given else None) ≡ shown_plan window sym given
taken_if_shown window sym None = refl
taken_if_shown window sym (Some given) = taken_if (is_shown window sym given) given

pub framed_page : {T E : Type 0} (r : Result T E) (roster : Listing) (tape : Tape) (last : ℕ) (frame : Frame) (sym : ℕ)
    (given : Option (Plan × Said)) (traded : List Execution) (found : List (Option Finding)) (old new : Option (List ℕ)) (window : Window)
    → IsFramed (length roster.syms) last frame sym window
    → OnOk r (WritesPage roster tape window (sym ∷ []) traded found (shown_plan window sym given) old new)
    → OnOk r (IsFramedPage roster tape last frame sym given traded found old new)
framed_page (Ok t) roster tape last frame sym given traded found old new window framed written =
    record { window = window; framed = framed; written = written }
framed_page (Err e) roster tape last frame sym given traded found old new window framed written = tt

pub day_page : {T E : Type 0} (r : Result T E) (settings : Settings) (tape : Tape) (last : ℕ) (frame : Frame) (sym : ℕ)
    (plan : Option (List ℕ)) (given : Option (Plan × Said)) (traded : List Execution) (found : List (Option Finding))
    (old new : Option (List ℕ)) → last ≡ last_drawn frame.to tape → IsGivenPlan settings tape plan given
    → OnOk r (IsFramedPage settings.roster tape last frame sym given traded found old new)
    → OnOk r (IsDayPage settings tape frame sym plan traded found old new)
day_page (Ok t) settings tape last frame sym plan given traded found old new same planned page = record {
  given = given;
  planned = planned;
  page = subst (λ (n : ℕ). IsFramedPage settings.roster tape n frame sym given traded found old new) same page;
}
day_page (Err e) settings tape last frame sym plan given traded found old new same planned page = tt

pub file_page : {T E : Type 0} (r : Result T E) (settings own : Settings) (bytes : Option (List ℕ)) (frame : Frame) (sym : ℕ)
    (plan old new : Option (List ℕ)) (tape : Tape) → own ≡ settings → IsFileTape settings bytes tape
    → OnOk r (IsDayPage own tape frame sym plan [] [] old new) → OnOk r (IsFilePage settings bytes frame sym plan old new)
file_page (Ok t) settings own bytes frame sym plan old new tape same file page =
    record { tape = tape; file = file; page = subst (λ (one : Settings). IsDayPage one tape frame sym plan [] [] old new) same page }
file_page (Err e) settings own bytes frame sym plan old new tape same file page = tt
