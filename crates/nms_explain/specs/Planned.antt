-- The records of a plan's text, counted: how many there are, and how many are wrong; and how a report on the text ends. This
-- product's own rule.
use Rattle.std.specs.Prelude.{ℕ, ◌≡◌, ◌==◌, ◌&&◌, List, Bool, Option, is_some, length, if◌then◌else◌}
use Rattle.nms_quote.specs.Roster.{Listing}
use Rattle.nms_lines.specs.Layout.{Record}
use Rattle.nms_lines.specs.PlanReading.{plan_in}
use Rattle.nms_lines.specs.Records.{AreAllRecords}
use Rattle.nms_show.specs.declared.ending.Ending.{Ending}
use Rattle.nms_show.specs.declared.ending.Ending.TheVariants as ending
use Rattle.nms_explain.specs.PlanOrder.{HasPassed, is_ended, wrong_in}
use Rattle.nms_explain.specs.declared.plan_text.Came.{Came}

-- done if all is right
abbrev pub ending_if : Bool → Ending
ending_if right = if right then ending.Done else ending.Refused

-- done exactly if the records are those of a plan: the reader of plans takes the text
abbrev pub plan_ending : Listing → List Record → Ending
plan_ending roster records = ending_if (is_some (plan_in roster records))

-- so a report on a text ends
abbrev pub EndsAsPlan : Listing → Option (List ℕ) → Ending → Type 0
EndsAsPlan roster bytes ended = (records : List Record) × AreAllRecords bytes records × (ended ≡ plan_ending roster records)

-- the counts after these records: how many there were, how many of them were wrong, and which record is due next
pub record HaveCome (roster : Listing) (seen : List Record) (came : Came) : Type 0 where
  pub records : came.records ≡ length seen
  pub refused : came.refused ≡ wrong_in roster seen
  pub walk : HasPassed seen came.walk

-- the counts after all records of a text
abbrev pub AllHaveCome : Listing → Option (List ℕ) → Came → Type 0
AllHaveCome roster bytes came = (records : List Record) × AreAllRecords bytes records × HaveCome roster records came

-- none of those that came is wrong, and none is missing
abbrev pub is_done : Came → Bool
is_done came = (came.refused == 0) && is_ended came.walk.due
