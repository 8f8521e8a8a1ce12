-- A line of the script is answered as its request, under any number; and how the board's lines are read.
use Rattle.std.proofs.Common.{ℕ, ◌≡◌, ◌++◌, Bool, true, false, List, [], ◌∷◌, map, Option, Some, None, Result, Ok, Err, refl, ap}
use Rattle.std.proofs.Common.{sym, subst, ◌∙◌, codes, if◌then◌else◌, length, option_map, inl, inr}
use Rattle.std.specs.Prelude.{nat_lt, ◌&&◌}
use Rattle.std.proofs.lemmas.Bool.{false≢true, le-ltb}
use Rattle.std.proofs.lemmas.Option.{slice_get_cases}
use Rattle.nms_quote.specs.Roster.{Listing, Name, feed_at, feed_of_change, holds, sizes_of}
use Rattle.nms_quote.specs.Tape.{Tape}
use Rattle.nms_quote.specs.declared.certificate.Cut.{Cut}
use Rattle.nms_quote.specs.declared.change.Change.{Change}
use Rattle.nms_quote.specs.declared.change.Change.TheVariants as change
use Rattle.nms_quote.specs.declared.feed.Feed.{Feed}
use Rattle.nms_quote.specs.declared.feed.Feed.TheVariants as feed
use Rattle.nms_quote.specs.declared.plan.Leg.{Leg}
use Rattle.nms_quote.specs.declared.plan.Plan.{Plan}
use Rattle.nms_quote.specs.declared.side_quote.Side.{Side}
use Rattle.nms_board.specs.declared.row.Row.{Row}
use Rattle.nms_board.specs.View.{Seen}
use Rattle.nms_fees.specs.Settings.{Settings}
use Rattle.nms_lines.specs.Layout.{Record, field, kind_named}
use Rattle.nms_lines.specs.PlanText.{cut_record, end_record, leg_record, plan_record, plan_records}
use Rattle.nms_lines.specs.declared.line.Line.{Line}
use Rattle.nms_lines.specs.declared.line.Line.TheVariants as line
use Rattle.nms_lines.specs.declared.line_fault.LineFault.{LineFault}
use Rattle.nms_lines.specs.declared.line_fault.LineFault.TheVariants as fault
use Rattle.nms_lines.specs.Faults as line_faults
use Rattle.nms_change_text.specs.ChangeText.{change_record}
use Rattle.nms_text.specs.Answers.{refusal, through_head, through_records, through_row}
use Rattle.nms_flow.specs.Run.{Event}
use Rattle.nms_scripts.specs.Script.{script_reading}
use Rattle.nms_scripts.specs.Script as script
use Rattle.nms_answers.specs.Requests.{AnswersReading, AnswersRequest, is_asked, request_reading}
use Rattle.nms_answers.specs.Told.{look_at}
use Rattle.nms_answers.specs.Merged.{as_request}
use Rattle.nms_answers.specs.OneScript.{renumbered}

-- what a line of a request says in the script is what the request says
reads_alike : (settings : Settings) (fields : Record) → script_reading settings (as_request fields) ≡ request_reading settings fields
reads_alike settings fields = by_kind (is_asked (kind_named (field fields 0)))
  where
    by_kind : (asked : Bool) → script_reading settings (if asked then fields else codes "?" ∷ [])
        ≡ (if asked then script_reading settings fields else Err fault.UnknownKind)
    by_kind true = refl
    by_kind false = refl

-- no record of a plan, nor of what a price trades through, is a refusal
keeps_cuts : (number : ℕ) (cuts : List Cut)
    → map (renumbered number) (map cut_record cuts ++ (end_record ∷ [])) ≡ map cut_record cuts ++ (end_record ∷ [])
keeps_cuts number [] = refl
keeps_cuts number (cut ∷ cuts) = ap (λ (l : List Record). cut_record cut ∷ l) (keeps_cuts number cuts)

keeps_legs : (number : ℕ) (roster : Listing) (legs : List Leg) (cuts : List Cut)
    → map (renumbered number) (map (leg_record roster) legs ++ (map cut_record cuts ++ (end_record ∷ [])))
    ≡ map (leg_record roster) legs ++ (map cut_record cuts ++ (end_record ∷ []))
keeps_legs number roster [] cuts = keeps_cuts number cuts
keeps_legs number roster (leg ∷ legs) cuts = ap (λ (l : List Record). leg_record roster leg ∷ l) (keeps_legs number roster legs cuts)

keeps_plan : (number : ℕ) (roster : Listing) (plan : Plan) (cuts : List Cut)
    → map (renumbered number) (plan_records roster plan cuts) ≡ plan_records roster plan cuts
keeps_plan number roster plan cuts =
    ap (λ (l : List Record). plan_record roster plan ∷ l) (keeps_legs number roster plan.legs.items cuts)

keeps_rows : (number : ℕ) (roster : Listing) (quotations : List (Side × Row))
    → map (renumbered number) (map (through_row roster) quotations) ≡ map (through_row roster) quotations
keeps_rows number roster [] = refl
keeps_rows number roster (quotation ∷ quotations) =
    ap (λ (l : List Record). through_row roster quotation ∷ l) (keeps_rows number roster quotations)

keeps_through : (number : ℕ) (roster : Listing) (desk : ℕ) (seen : Seen) (price : ℕ) (quotations : List (Side × Row))
    → map (renumbered number) (through_records roster desk seen price quotations) ≡ through_records roster desk seen price quotations
keeps_through number roster desk seen price quotations =
    ap (λ (l : List Record). through_head roster desk seen price (length quotations) ∷ l) (keeps_rows number roster quotations)

-- an answer that has no refusal is the same under any number
unchanged : (number : ℕ) (told wanted : List Record) → told ≡ wanted → map (renumbered number) wanted ≡ wanted
    → map (renumbered number) told ≡ told
unchanged number told wanted is keeps = ap (map (renumbered number)) is ∙ keeps ∙ sym is

-- the step of an answer is a look at its version; a refusal has none
abbrev pub IsLookAt : Settings → Option Tape → List Event → Type 0
IsLookAt settings None events = events ≡ []
IsLookAt settings (Some version) events = (desk symbol : ℕ) × (events ≡ look_at settings desk symbol version)

-- a request is answered in the script, under its number there: its answer is the client's under the client's number
pub record IsAnsweredAs (settings : Settings) (number there : ℕ) (read : Result Line LineFault) (look : Option Tape) (told : List Record) :
    Type 0 where
  pub also : List Record
  pub events : List Event
  pub answers : script.AnswersReading settings there read events also
  pub same : map (renumbered number) also ≡ told
  pub looks : IsLookAt settings look events

by_reading : (settings : Settings) (number there : ℕ) (read : Result Line LineFault) (look : Option Tape) (told : List Record)
    → AnswersReading settings number read look told → IsAnsweredAs settings number there read look told
by_reading settings number there (Ok (line.Best desk symbol)) (Some version) told is = record {
  also = told;
  events = look_at settings desk symbol version;
  answers = is;
  same = unchanged number told _ is.6 refl;
  looks = (desk, symbol, refl);
}
by_reading settings number there (Ok (line.Through desk symbol price)) (Some version) told is = record {
  also = told;
  events = look_at settings desk symbol version;
  answers = is;
  same = unchanged number told _ is.2 (keeps_through number settings.roster desk is.0 price _);
  looks = (desk, symbol, refl);
}
by_reading settings number there (Ok (line.Sweep desk order)) (Some version) told is = record {
  also = told;
  events = look_at settings desk order.sym version;
  answers = is;
  same = unchanged number told _ is.5 (keeps_plan number settings.roster is.1 is.2);
  looks = (desk, order.sym, refl);
}
by_reading settings number there (Ok (line.Change change)) (Some version) told is = absurd is
by_reading settings number there (Ok line.TakeOne) (Some version) told is = absurd is
by_reading settings number there (Ok line.TakeAll) (Some version) told is = absurd is
by_reading settings number there (Ok line.Publish) (Some version) told is = absurd is
by_reading settings number there (Ok (line.Tell desk)) (Some version) told is = absurd is
by_reading settings number there (Ok said) None told is = absurd is
by_reading settings number there (Err why) (Some version) told is = absurd is
by_reading settings number there (Err why) None told is = record {
  also = refusal there (line_faults.code_of why) ∷ [];
  events = [];
  answers = (refl, refl);
  same = sym is;
  looks = refl;
}

pub answered_as : (settings : Settings) (number there : ℕ) (fields : Record) (look : Option Tape) (told : List Record)
    → AnswersRequest settings number fields look told
    → IsAnsweredAs settings number there (script_reading settings (as_request fields)) look told
answered_as settings number there fields look told is =
    subst (λ (read : Result Line LineFault). IsAnsweredAs settings number there read look told) (sym (reads_alike settings fields))
    (by_reading settings number there (request_reading settings fields) look told is)

left : (a b : Bool) → (a && b) ≡ true → a ≡ true
left true b is = refl
left false b is = is

of_part : (roster : Listing) (part : ℕ) → nat_lt part (length roster.parts) ≡ true → (own : Feed) × (feed_at roster part ≡ Some own)
of_part roster part below = elim (slice_get_cases roster.parts part).1 [
  | inl found ↦ (found.0.1, ap (option_map (λ (entry : Name × Feed). entry.1)) found.2)
  | inr past ↦ absurd (false≢true (sym (le-ltb part (length roster.parts) past.0) ∙ below))
]

-- a change of the roster belongs to a feed
pub belongs : (roster : Listing) (said : Change) → holds (sizes_of roster) said ≡ true
    → (own : Feed) × (feed_of_change roster said ≡ Some own)
belongs roster (change.Quote part symbol state bid offer) held = of_part roster part (left _ _ held)
belongs roster (change.State part symbol state) held = of_part roster part (left _ _ held)
belongs roster (change.Withdraw part) held = of_part roster part held
belongs roster (change.Lot symbol lot) held = (feed.A, refl)

-- a change's record asks for its sending
pub answers_change : (settings : Settings) (number : ℕ) (said : Change) (events : List Event) (told : List Record)
    → script_reading settings (change_record settings.roster said) ≡ Ok (line.Change said)
    → script.Sends settings.roster number said events told
    → script.AnswersRecord settings number (change_record settings.roster said) events told
answers_change settings number said events told read is =
    subst (λ (r : Result Line LineFault). script.AnswersReading settings number r events told) (sym read) is
