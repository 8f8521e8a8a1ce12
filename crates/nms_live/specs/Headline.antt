-- What is promised of each answer of a live run (17 CFR 242.600, "intermarket sweep order", "national best bid and
-- national best offer"; 242.611(a), (b)(5) and (6)). That no lawful plan is better is this product's own rule.
use Rattle.std.specs.Prelude.{ℕ, ◌≡◌, ◌<◌, ◌≤◌, ◌⊎◌, ◌↔◌, ◌++◌, AllPairs, List, length, Option, Some}
use Rattle.std.specs.List.{AllByRecursion, Contains}
use Rattle.nms_quote.specs.Roster.{sizes_of}
use Rattle.nms_quote.specs.Tape.{Tape, version}
use Rattle.nms_quote.specs.declared.side_quote.Side.{Side}
use Rattle.nms_quote.specs.declared.side_quote.Side.TheVariants.{Bid, Offer}
use Rattle.nms_board.specs.Quotation.{quotation_of}
use Rattle.nms_board.specs.View.{Seen, rows_on}
use Rattle.nms_board.specs.declared.row.Row.{Row}
use Rattle.nms_fees.specs.Settings.{Settings}
use Rattle.nms_nbbo.specs.Best.{IsBestOf}
use Rattle.nms_rules.specs.Accepted.{IsAccepted}
use Rattle.nms_rules.specs.Assignment.{IsOptimal}
use Rattle.nms_rules.specs.Faultless.{given_by}
use Rattle.nms_rules.specs.Laws.{NeverTradesThrough}
use Rattle.nms_rules.specs.Usable.{usable}
use Rattle.nms_live.specs.Answering.{of_desk, versions}
use Rattle.nms_live.specs.RunOf.{basis_of}
use Rattle.nms_quote.specs.declared.answer.Answer.{Answer}
use Rattle.nms_live.specs.declared.live.Live.{Live}

-- the rule's ranking finds one best row, or that there is none, and nothing else is
abbrev pub HasOneBest : Side → List Row → Type 0
HasOneBest side rows = (best : Option Row) × IsBestOf side rows best × ((other : Option Row) → IsBestOf side rows other → other ≡ best)

-- by the changes of the tape a participant of the roster quotes this on the side of the symbol
abbrev pub IsQuotation : Settings → Tape → ℕ → Side → Row → Type 0
IsQuotation settings tape sym side row =
    (part : ℕ) × (part < (sizes_of settings.roster).parts) × (quotation_of (sizes_of settings.roster) tape sym side part ≡ Some row)

-- one published version of the tape, its first changes up to that number: the length at some publishing, or 0, of the
-- empty one
pub record IsPublishedVersion (live : Live) (number : ℕ) : Type 0 where
  pub published : (number ≡ 0) ⊎ Contains live.published.items number
  pub first_changes : length (version number live.tape.items) ≡ number

-- what the answer's plan is on the quotations of its symbol in its version
pub record IsBestPlanOn (settings : Settings) (seen : Seen) (answer : Answer) : Type 0 where
  pub of_version : seen.version ≡ answer.plan.version
  -- at each price that it trades at it keeps the limit. Every protected quotation on the side that the order trades with
  -- gets its full displayed size, if this price would trade through it and the order does not name its participant
  pub never_through : NeverTradesThrough seen answer.plan.order answer.plan.legs.items
  -- it is lawful, and no lawful plan fills more, or as much for less with fees
  pub optimal : IsOptimal (usable seen answer.plan.order settings.fees) answer.plan.order.shares (given_by answer.plan.legs.items)
  -- as its certificate shows to the caller who checks it
  pub accepted : IsAccepted seen answer.plan.order settings.fees answer.plan answer.certificate.items

-- the answer names one published version; the best quotes there are the rule's ranking of the changes published, and
-- its plan is the best lawful one there
pub record IsBestOfItsVersion (settings : Settings) (live : Live) (answer : Answer) : Type 0 where
  pub version_is : IsPublishedVersion live answer.plan.version
  -- the rows that the plan was made on are what the version's changes leave quoted in its symbol, none missing and none
  -- more; all that follow speak of these rows
  pub rows : (side : Side) (row : Row) → Contains (rows_on side (basis_of settings live answer)) row
      ↔ IsQuotation settings (version answer.plan.version live.tape.items) answer.plan.order.sym side row
  pub bid : HasOneBest Bid (basis_of settings live answer).bids
  pub offer : HasOneBest Offer (basis_of settings live answer).offers
  pub plan_is : IsBestPlanOn settings (basis_of settings live answer) answer

-- this holds of all answers, those of the run and the closing ones; none is on an older version than its desk saw before; and
-- the closing ones are on the complete tape, which their desk learned of
pub record AreBestOfTheirVersions (settings : Settings) (live : Live) : Type 0 where
  pub each : AllByRecursion (IsBestOfItsVersion settings live) (live.answers.items ++ live.closing.items)
  pub no_older : (desk : ℕ) → AllPairs (λ earlier later. earlier ≤ later)
      (versions (of_desk desk (live.answers.items ++ live.closing.items)))
  pub told : AllByRecursion (λ answer. answer.plan.version ≡ length live.tape.items) live.closing.items
