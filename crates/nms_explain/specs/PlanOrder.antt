-- The records of a plan's text in their order: which is due after those that came, what is wrong with the next one, and when
-- they are a plan's. A law says that they are read as one exactly then. This product's own rule.
use Rattle.std.specs.Prelude.{ℕ, ◌≡◌, ◌==◌, ◌&&◌, ◌+◌, ◌++◌, ◌∷◌, List, [], Bool, true, false, Option, Some, None, codes, length}
use Rattle.std.specs.Prelude.{count_by, is_some, min, nat_lt, if◌then◌else◌}
use Rattle.std.specs.List.{list_any}
use Rattle.nms_quote.specs.Roster.{Listing}
use Rattle.nms_lines.specs.Layout.{Record, field, is_text}
use Rattle.nms_lines.specs.PlanReading.{plan_in}
use Rattle.nms_lines.specs.PlanRecords.{wrong_as}
use Rattle.nms_lines.specs.declared.line_fault.FaultPlace.{FaultPlace}
use Rattle.nms_lines.specs.declared.line_fault.FaultPlace.TheVariants as place
use Rattle.nms_lines.specs.declared.plan_record.PlanRecord.{PlanRecord}
use Rattle.nms_lines.specs.declared.plan_record.PlanRecord.TheVariants as record_of
use Rattle.nms_explain.specs.declared.places.plan_walk.PlanDue.{PlanDue}
use Rattle.nms_explain.specs.declared.places.plan_walk.PlanDue.TheVariants as due
use Rattle.nms_explain.specs.declared.places.plan_walk.PlanTrouble.{PlanTrouble}
use Rattle.nms_explain.specs.declared.places.plan_walk.PlanTrouble.TheVariants as trouble
use Rattle.nms_explain.specs.declared.places.plan_walk.PlanWalk.{PlanWalk}

-- whether a record begins with that word
abbrev pub begins : List ℕ → Record → Bool
begins word fields = is_text word (field fields 0)

-- whether one of these does
abbrev pub has_word : List ℕ → List Record → Bool
has_word word records = list_any (begins word) records

-- what is due after the record of the plan and these: nothing after an end, no leg after a cut
abbrev pub due_after_plan : List Record → PlanDue
due_after_plan more =
    if has_word (codes "END") more then due.Nothing
    else (if has_word (codes "CUT") more then due.Cut else due.Leg)

-- what is due after these
abbrev pub due_after : List Record → PlanDue
due_after [] = due.Plan
due_after (fields ∷ more) = due_after_plan more

-- these from the first cut on
unfoldable pub from_cut : List Record → List Record
from_cut [] = []
from_cut (fields ∷ more) = if begins (codes "CUT") fields then fields ∷ more else from_cut more

-- the records of the list that goes on: the legs, or the cuts if one came, or none after an end
abbrev pub listed_in : List Record → List Record
listed_in more =
    if has_word (codes "END") more then []
    else (if has_word (codes "CUT") more then from_cut more else more)

-- how many legs came, or cuts if one came
abbrev pub count_after : List Record → ℕ
count_after [] = 0
count_after (fields ∷ more) = length (listed_in more)

-- as which record one that begins with that word is read, by what is due: an end or a cut by its word; none after the end
abbrev pub record_due : PlanDue → List ℕ → Option PlanRecord
record_due due.Plan word = Some record_of.Plan
record_due due.Leg word =
    Some (if is_text (codes "END") word then record_of.End else (if is_text (codes "CUT") word then record_of.Cut else record_of.Leg))
record_due due.Cut word = Some (if is_text (codes "END") word then record_of.End else record_of.Cut)
record_due due.Nothing word = None

-- where it is wrong as that record; if none is due, its first field is
abbrev pub wrong_by : Option PlanRecord → Listing → Record → Option FaultPlace
wrong_by None roster fields = Some (place.Field 0)
wrong_by (Some sort) roster fields = wrong_as sort roster fields

-- where a record is wrong, by what is due
abbrev pub due_place : PlanDue → Listing → Record → Option FaultPlace
due_place due roster fields = wrong_by (record_due due (field fields 0)) roster fields

-- the place that is wrong, or else whether it is one too many
abbrev pub trouble_by : Option FaultPlace → Bool → Option PlanTrouble
trouble_by (Some at) many = Some (trouble.Wrong at)
trouble_by None many = if many then Some trouble.TooMany else None

-- what is wrong with a record after those: its place, or else it is a leg after 32 legs or a cut after 32 cuts
abbrev pub trouble_after : Listing → List Record → Record → Option PlanTrouble
trouble_after roster before fields =
    trouble_by (due_place (due_after before) roster fields) (nat_lt 32 (count_after (before ++ fields ∷ [])))

-- what is wrong with each of these after those
unfoldable pub troubles_after : Listing → List Record → List Record → List (Option PlanTrouble)
troubles_after roster before [] = []
troubles_after roster before (fields ∷ more) =
    trouble_after roster before fields ∷ troubles_after roster (before ++ fields ∷ []) more

-- how many records of a text are wrong
abbrev pub wrong_in : Listing → List Record → ℕ
wrong_in roster records = count_by is_some (troubles_after roster [] records)

-- whether a text may end there
abbrev pub is_ended : PlanDue → Bool
is_ended due.Plan = false
is_ended due.Leg = false
is_ended due.Cut = false
is_ended due.Nothing = true

-- no record is wrong, and none is missing at the end
abbrev pub is_right : Listing → List Record → Bool
is_right roster records = (wrong_in roster records == 0) && is_ended (due_after records)

-- what is due after a record that begins with that word, by what was due before it
abbrev pub due_next : PlanDue → List ℕ → PlanDue
due_next due.Plan word = due.Leg
due_next due.Leg word =
    if is_text (codes "END") word then due.Nothing
    else (if is_text (codes "CUT") word then due.Cut else due.Leg)
due_next due.Cut word = if is_text (codes "END") word then due.Nothing else due.Cut
due_next due.Nothing word = due.Nothing

-- how many legs came then, or cuts, by how many came before it
abbrev pub count_next : PlanDue → ℕ → List ℕ → ℕ
count_next due.Plan count word = 0
count_next due.Leg count word =
    if is_text (codes "END") word then 0
    else (if is_text (codes "CUT") word then 1 else count + 1)
count_next due.Cut count word = if is_text (codes "END") word then 0 else count + 1
count_next due.Nothing count word = 0

-- a walk that came past these, which counts no further than 33
pub record HasPassed (before : List Record) (walk : PlanWalk) : Type 0 where
  pub due : walk.due ≡ due_after before
  pub count : walk.count ≡ min 33 (count_after before)

-- records are read as a plan exactly when none is wrong and none is missing
abbrev pub ReadsWhereNoRecordIsWrong : Type 0
ReadsWhereNoRecordIsWrong = (roster : Listing) (records : List Record) → is_right roster records ≡ is_some (plan_in roster records)
