-- The quotations that are listed with a plan: those on the side that its order trades with, as the plan's version shows them, in rank
-- order (17 CFR 242.600). This product's own rule.
use Rattle.std.specs.Prelude.{◌≡◌, Bool, true, false, List, [], length, map, nat_lt, if◌then◌else◌}
use Rattle.nms_quote.specs.Tape.{Tape}
use Rattle.nms_quote.specs.declared.plan.Plan.{Plan}
use Rattle.nms_board.specs.Ranking.{ranked}
use Rattle.nms_board.specs.View.{Seen}
use Rattle.nms_board.specs.declared.row.Row.{Row}
use Rattle.nms_fees.specs.Settings.{Settings}
use Rattle.nms_file_answers.specs.Audit.{seen_by}
use Rattle.nms_rules.specs.Usable.{contra, contra_rows}
use Rattle.nms_verdicts.specs.declared.plan_report.Said.{Said}
use Rattle.nms_verdicts.specs.declared.verdict.Verdict.{Verdict}
use Rattle.nms_verdicts.specs.declared.verdict.Verdict.TheVariants as verdict

-- whether the changes do not have the plan's version
abbrev pub is_beyond : Verdict → Bool
is_beyond verdict.Confirmed = false
is_beyond (verdict.Beyond changes) = true
is_beyond (verdict.Doubted doubt place) = false

-- on a view
abbrev pub listed_on : Seen → Plan → List Row
listed_on seen plan = ranked (contra plan.order.side) (contra_rows plan.order.side seen)

-- nothing if the changes do not have the plan's version
abbrev pub listed_by : Verdict → Seen → Plan → List Row
listed_by judged seen plan = if is_beyond judged then [] else listed_on seen plan

-- the remarks about a plan list them, for the plan's version of the changes
pub record AreListed (settings : Settings) (tape : Tape) (plan : Plan) (said : Said) : Type 0 where
  pub beyond : said.is_beyond ≡ nat_lt (length tape) plan.version
  pub rows : map (λ quotation. quotation.row) said.quotations.items
      ≡ (if nat_lt (length tape) plan.version then [] else listed_on (seen_by settings tape plan) plan)
