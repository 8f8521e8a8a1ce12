-- What an audit says of a plan: it is judged on its own version of the changes, for its own order. This product's
-- own rule.
use Rattle.std.specs.Prelude.{◌≡◌, ◌<◌, ◌≤◌, List, length, Option, Some, None, Result, Ok, Err}
use Rattle.nms_quote.specs.Roster.{sizes_of}
use Rattle.nms_quote.specs.Tape.{Tape, version}
use Rattle.nms_quote.specs.declared.certificate.Cut.{Cut}
use Rattle.nms_quote.specs.declared.plan.Plan.{Plan}
use Rattle.nms_board.specs.View.{Seen, view_of}
use Rattle.nms_fees.specs.Settings.{Settings}
use Rattle.nms_rules.specs.Assignment.{IsOptimal}
use Rattle.nms_rules.specs.Faultless.{given_by}
use Rattle.nms_rules.specs.Usable.{usable}
use Rattle.nms_cert.specs.Doubts.{doubt_of}
use Rattle.nms_cert.specs.declared.doubt.Doubt.{Doubt}
use Rattle.nms_file_answers.specs.declared.audit_fault.AuditFault.{AuditFault}
use Rattle.nms_file_answers.specs.declared.audit_fault.AuditFault.TheVariants as fault

-- what the plan's version of the changes shows of the order's symbol
abbrev pub seen_by : Settings → Tape → Plan → Seen
seen_by settings tape plan = view_of (sizes_of settings.roster) (version plan.version tape) plan.order.sym

-- the doubt of the plan and its cuts there
abbrev pub doubt_on : Settings → Tape → Plan → List Cut → Option Doubt
doubt_on settings tape plan cuts = doubt_of (seen_by settings tape plan) plan.order settings.fees plan cuts

-- the plan is lawful there, no lawful one fills more, and none that fills as much costs less
abbrev pub IsBest : Settings → Tape → Plan → Type 0
IsBest settings tape plan = IsOptimal (usable (seen_by settings tape plan) plan.order settings.fees) plan.order.shares
    (given_by plan.legs.items)

-- the version is longer than the changes, or else the doubt, or none. Out of memory says nothing of the plan
abbrev pub IsFinding : Settings → Tape → Plan → List Cut → Result (Unit {0}) AuditFault → Type 0
IsFinding settings tape plan cuts (Err fault.VersionBeyondTape) = length tape < plan.version
IsFinding settings tape plan cuts (Err (fault.Doubt doubt)) = (plan.version ≤ length tape) × (doubt_on settings tape plan cuts ≡ Some doubt)
IsFinding settings tape plan cuts (Ok done) = (plan.version ≤ length tape) × (doubt_on settings tape plan cuts ≡ None)
IsFinding settings tape plan cuts (Err fault.NoMemory) = plan.version ≤ length tape
