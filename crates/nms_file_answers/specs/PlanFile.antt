-- The plan of an order on a file of changes: all of them are one tape, and the plan is made on what it shows. This
-- product's own rule.
use Rattle.std.specs.Prelude.{ℕ, ⊤, List, Option}
use Rattle.std.specs.Io.KnownBytes.{Appends}
use Rattle.nms_quote.specs.Roster.{sizes_of}
use Rattle.nms_quote.specs.Tape.{Tape}
use Rattle.nms_quote.specs.Terms.{Terms}
use Rattle.nms_quote.specs.declared.certificate.Cut.{Cut}
use Rattle.nms_quote.specs.declared.plan.Plan.{Plan}
use Rattle.nms_board.specs.View.{Seen, view_of}
use Rattle.nms_fees.specs.Settings.{Settings}
use Rattle.nms_lines.specs.PlanText.{plan_text}
use Rattle.nms_rules.specs.Accepted.{IsAccepted}
use Rattle.nms_rules.specs.Assignment.{IsOptimal}
use Rattle.nms_rules.specs.Faultless.{given_by}
use Rattle.nms_rules.specs.Usable.{usable}
use Rattle.nms_files.specs.ChangeFile.{IsFileFault, IsFileTape}
use Rattle.nms_file_answers.specs.declared.plan_fault.PlanFault.{PlanFault}
use Rattle.nms_file_answers.specs.declared.plan_fault.PlanFault.TheVariants as fault

-- a plan of the order was written with its certificate, and nothing else: it is accepted by that on what is seen, and
-- so no lawful plan fills more, or as much for less with fees (17 CFR 242.600, "intermarket sweep order")
pub record PlansOn (settings : Settings) (seen : Seen) (order : Terms) (old new : Option (List ℕ)) : Type 0 where
  pub plan : Plan
  pub cuts : List Cut
  pub accepted : IsAccepted seen order settings.fees plan cuts
  pub optimal : IsOptimal (usable seen order settings.fees) order.shares (given_by plan.legs.items)
  pub written : Appends old new (plan_text settings.roster plan cuts)

-- as above, on what the complete tape of a file shows for the order's symbol
abbrev pub PlansFile : Settings → Option (List ℕ) → Terms → Option (List ℕ) → Option (List ℕ) → Type 0
PlansFile settings bytes order old new =
    (tape : Tape) × IsFileTape settings bytes tape × PlansOn settings (view_of (sizes_of settings.roster) tape order.sym) order old new

-- why an order is not planned on a file of changes, as far as the file itself is the cause
abbrev pub IsPlanFault : Settings → Option (List ℕ) → PlanFault → Type 0
IsPlanFault settings bytes (fault.Changes refused) = IsFileFault settings bytes refused
IsPlanFault settings bytes _ = ⊤
