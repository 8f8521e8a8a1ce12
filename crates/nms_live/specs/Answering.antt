-- Answers of desks to orders: a plan on one version, with its certificate. This product's own rule.
use Rattle.std.specs.Prelude.{ℕ, ◌≡◌, ◌==◌, ◌<◌, ◌⊎◌, ◌++◌, List, length, map, filter, slice_index_or, None}
use Rattle.std.specs.List.{AllByRecursion, AllZip, Contains, enumerate_from}
use Rattle.nms_quote.specs.Roster.{sizes_of}
use Rattle.nms_quote.specs.Tape.{Tape, version}
use Rattle.nms_board.specs.View.{Seen, view_of}
use Rattle.nms_fees.specs.Settings.{Settings}
use Rattle.nms_rules.specs.Accepted.{IsAccepted}
use Rattle.nms_rules.specs.Assignment.{IsOptimal}
use Rattle.nms_rules.specs.Faultless.{given_by}
use Rattle.nms_rules.specs.Usable.{usable}
use Rattle.nms_versions.specs.Taped.{Knowing}
use Rattle.nms_live.specs.Faults.{IsNoLineIfAny}
use Rattle.nms_live.specs.Lists.{IsRising, SomeOf}
use Rattle.nms_quote.specs.declared.answer.Answer.{Answer}
use Rattle.nms_live.specs.declared.closing.DeskRow.{DeskRow}
use Rattle.nms_live.specs.declared.desk_work.Desked.{Desked}
use Rattle.nms_live.specs.declared.own_orders.OwnOrders.{OwnOrders}
use Rattle.nms_quote.specs.declared.desk_order.DeskOrder.{DeskOrder}

-- the orders with their places, from 0
abbrev pub numbered : List DeskOrder → List (ℕ × DeskOrder)
numbered orders = enumerate_from 0 orders

-- those of one desk
abbrev pub own : ℕ → List (ℕ × DeskOrder) → List (ℕ × DeskOrder)
own desk orders = filter (λ order. order.1.desk == desk) orders

-- each row has the orders of the desk at its place
abbrev pub AreOwn : List DeskOrder → List OwnOrders → Type 0
AreOwn orders rows = (k : ℕ) (d : OwnOrders) → k < length rows → (slice_index_or rows k d).orders.items ≡ own k (numbered orders)

-- the answer is to this order: it has its desk, its number and its terms
abbrev pub IsFor : ℕ × DeskOrder → Answer → Type 0
IsFor order answer = (answer.desk ≡ order.1.desk) × (answer.number ≡ order.0) × (answer.plan.order ≡ order.1.order)

-- what a version shows of the answer's symbol
abbrev pub seen_in : Settings → Tape → Answer → Seen
seen_in settings tape answer = view_of (sizes_of settings.roster) tape answer.plan.order.sym

-- on this version the plan is accepted with its certificate; so it is optimal
pub record IsBestOn (settings : Settings) (tape : Tape) (answer : Answer) : Type 0 where
  pub accepted : IsAccepted (seen_in settings tape answer) answer.plan.order settings.fees answer.plan answer.certificate.items
  pub optimal : IsOptimal (usable (seen_in settings tape answer) answer.plan.order settings.fees) answer.plan.order.shares
      (given_by answer.plan.legs.items)

-- the versions that answers were made on
abbrev pub versions : List Answer → List ℕ
versions answers = map (λ answer. answer.plan.version) answers

-- the answers of one desk
abbrev pub of_desk : ℕ → List Answer → List Answer
of_desk desk answers = filter (λ answer. answer.desk == desk) answers

-- what a desk's worker did: an answer to each of the desk's own orders, in order; each is on a version that the desk
-- knows, and none is on an older one than before
pub record IsWorked (settings : Settings) (orders : List (ℕ × DeskOrder)) (known : List Tape) (answers : List Answer) : Type 0 where
  pub matched : AllZip IsFor orders answers
  pub best : AllByRecursion (λ answer. SomeOf (λ tape. IsBestOn settings tape answer) known) answers
  pub rising : IsRising (versions answers)

-- the desk came back as it went, and unless its worker stopped early, the work is done
pub record IsDesked (settings : Settings) (orders : List (ℕ × DeskOrder)) (before : Knowing) (back : Desked) : Type 0 where
  pub opening : back.desk.opening ≡ before.opening
  pub sizes : back.desk.sizes ≡ before.sizes
  pub worked : back.stop ≡ None → IsWorked settings orders back.desk.known back.answers.items
  pub stopped : IsNoLineIfAny back.stop

-- the answer's version was published, or is the empty one, and on it the answer is the best
pub record IsSound (settings : Settings) (tape : Tape) (published : List ℕ) (answer : Answer) : Type 0 where
  pub published_it : (answer.plan.version ≡ 0) ⊎ Contains published answer.plan.version
  pub best : IsBestOn settings (version answer.plan.version tape) answer

-- a desk's answers once it has settled: those of the run and the closing ones
pub record IsClosed (settings : Settings) (desk : ℕ) (orders : List DeskOrder) (tape : Tape) (published : List ℕ) (row : DeskRow) : Type 0
  where
    pub matched : AllZip IsFor (own desk (numbered orders)) row.answers.items
    pub closing_matched : AllZip IsFor (own desk (numbered orders)) row.closing.items
    pub sound : AllByRecursion (IsSound settings tape published) row.answers.items
    pub closing_sound : AllByRecursion (IsSound settings tape published) row.closing.items
    pub rising : IsRising (versions (row.answers.items ++ row.closing.items))
    pub last : AllByRecursion (λ answer. answer.plan.version ≡ length tape) row.closing.items

-- the answers of a run to all its orders, in order: one to each, and one on the complete tape
pub record IsAnswered (settings : Settings) (orders : List DeskOrder) (tape : Tape) (published : List ℕ) (answers closing : List Answer) :
    Type 0 where
  pub matched : AllZip IsFor (numbered orders) answers
  pub closing_matched : AllZip IsFor (numbered orders) closing
  pub sound : AllByRecursion (IsSound settings tape published) answers
  pub closing_sound : AllByRecursion (IsSound settings tape published) closing
  pub last : AllByRecursion (λ answer. answer.plan.version ≡ length tape) closing
  pub rising : (desk : ℕ) → IsRising (versions (of_desk desk (answers ++ closing)))
