-- How the answer to a script grows by one record.
use Rattle.std.proofs.Common.{ℕ, ◌≡◌, ◌≢◌, ◌++◌, Bool, cond, true, false, List, [], ◌∷◌, Option, Some, Ok, Err, refl, ap, sym, subst, ◌∙◌}
use Rattle.std.proofs.Common.{append_assoc}
use Rattle.std.specs.Prelude.{IfOk, Result, count_by}
use Rattle.std.specs.declared.alloc.AllocError.{AllocError}
use Rattle.nms_quote.specs.Roster.{Listing, feed_of_change}
use Rattle.nms_quote.specs.declared.change.Change.{Change}
use Rattle.nms_quote.specs.declared.feed.Feed.{Feed}
use Rattle.nms_quote.specs.declared.side_quote.Side.{Side}
use Rattle.nms_quote.specs.declared.side_quote.Side.TheVariants.{Bid, Offer}
use Rattle.nms_board.specs.View.{Seen, rows_on}
use Rattle.nms_board.specs.declared.row.Row.{Row}
use Rattle.nms_nbbo.specs.Best.{IsBestOf}
use Rattle.nms_quote.specs.Terms.{Terms}
use Rattle.nms_quote.specs.declared.certificate.Cut.{Cut}
use Rattle.nms_quote.specs.declared.plan.Plan.{Plan}
use Rattle.nms_fees.specs.Settings.{Settings}
use Rattle.nms_lines.specs.PlanText.{plan_records}
use Rattle.nms_lines.specs.Text.{text_of}
use Rattle.nms_rules.specs.Accepted.{IsAccepted}
use Rattle.nms_rules.specs.Through.{traded_through_at}
use Rattle.nms_flow.specs.Flow.{State, IsAfter, WentOn}
use Rattle.nms_flow.specs.Run.{Answer, Event}
use Rattle.nms_flow.specs.Takes.{TakesUntil}
use Rattle.nms_flow.specs.declared.step.Step.{Step}
use Rattle.nms_flow.specs.declared.step.Step.TheVariants as step
use Rattle.nms_flow.specs.declared.step_fault.StepFault.{StepFault}
use Rattle.nms_flow.specs.declared.step_fault.StepFault.TheVariants as fault
use Rattle.nms_flow.specs.declared.reply.Reply.{Reply}
use Rattle.nms_flow.specs.declared.reply.Reply.TheVariants as reply
use Rattle.nms_flow.proofs.Offered.{goes_on}
use Rattle.nms_text.specs.Answers.{best_record, through_head, through_records}
use Rattle.nms_scripts.specs.Told.{told_by}
use Rattle.nms_scripts.specs.Script.{AsksAll, AsksOne, Sends, Serves, ShowsBest, ShowsPlan, ShowsThrough, is_refusal}
use Rattle.nms_scripts.proofs.PlanFacts.{plan_refuses_none}
use Rattle.nms_scripts.proofs.ThroughFacts.{through_refuses_none}

-- a reply is not out of memory
pub no_want : (r : Reply) → (let a : Answer = Ok r in a) ≢ Err fault.NoMemory
no_want r e = cc

-- one step, and its records
pub asks_one : (number : ℕ) (asked : Step) (answer : Answer) (old new : State) (before after : List ℕ) (is_refused : Bool)
    → WentOn old new (asked, answer) → answer ≢ Err fault.NoMemory → after ≡ before ++ text_of (told_by number answer)
    → count_by is_refusal (told_by number answer) ≡ cond is_refused 1 0
    → Serves (AsksOne number asked) old new (Some before) (Some after) is_refused
asks_one number asked answer old new before after is_refused went memory text count events h =
    ((asked, answer) ∷ [], told_by number answer, (answer, memory, refl, refl), goes_on old new events (asked, answer) went h, text, count)

-- one step that was refused, and its record
pub refuses_one : (number : ℕ) (asked : Step) (why : StepFault) (old new : State) (before after : List ℕ) (told : Result Bool AllocError)
    → WentOn old new (asked, Err why) → why ≢ fault.NoMemory
    → IfOk told (λ refused. (refused ≡ true) × (after ≡ before ++ text_of (told_by number (Err why))))
    → IfOk told (Serves (AsksOne number asked) old new (Some before) (Some after))
refuses_one number asked why old new before after (Err e) went some h = tt
refuses_one number asked why old new before after (Ok refused) went some h =
    asks_one number asked (Err why) old new before after refused went (λ e. some (failed e)) h.1 (ap (λ (b : Bool). cond b 1 0) (sym h.0))
  where
    failed : (let a : Answer = Err why in a) ≡ Err fault.NoMemory → why ≡ fault.NoMemory
    failed e = cc

-- a change is sent on the feed that it belongs to
pub sends : (roster : Listing) (number : ℕ) (change : Change) (feed : Feed) (old new : State) (before after : Option (List ℕ))
    (is_refused : Bool)
    → feed_of_change roster change ≡ Some feed → Serves (AsksOne number (step.Send feed change)) old new before after is_refused
    → Serves (Sends roster number change) old new before after is_refused
sends roster number change feed old new before after is_refused own serves events h =
    let served = serves events h in
    (served.0, served.1, (feed, own, served.2), served.3, served.4, served.5)

pub sends_all : (roster : Listing) (number : ℕ) (change : Change) (feed : Feed) (old new : State) (before after : Option (List ℕ))
    (told : Result Bool AllocError)
    → feed_of_change roster change ≡ Some feed → IfOk told (Serves (AsksOne number (step.Send feed change)) old new before after)
    → IfOk told (Serves (Sends roster number change) old new before after)
sends_all roster number change feed old new before after (Ok refused) own serves =
    sends roster number change feed old new before after refused own serves
sends_all roster number change feed old new before after (Err e) own serves = tt

-- a look at the best bid and offer
pub shows_best : (roster : Listing) (old new : State) (desk sym : ℕ) (seen : Seen) (bid offer : Option Row) (before after : List ℕ)
    → WentOn old new (step.Look desk sym, Ok (reply.Seen seen)) → IsBestOf Bid (rows_on Bid seen) bid
    → IsBestOf Offer (rows_on Offer seen) offer
    → after ≡ before ++ text_of (best_record roster desk seen bid offer ∷ [])
    → Serves (ShowsBest roster desk sym) old new (Some before) (Some after) false
shows_best roster old new desk sym seen bid offer before after went best_bid best_offer text events h = (
  (step.Look desk sym, Ok (reply.Seen seen)) ∷ [],
  best_record roster desk seen bid offer ∷ [],
  (seen, bid, offer, refl, best_bid, best_offer, refl),
  goes_on old new events (step.Look desk sym, Ok (reply.Seen seen)) went h,
  text,
  refl,
)

-- a look at what a price trades through
pub shows_through : (roster : Listing) (old new : State) (desk sym price : ℕ) (seen : Seen) (before after : List ℕ)
    → WentOn old new (step.Look desk sym, Ok (reply.Seen seen)) → after ≡ before
    ++ text_of (through_records roster desk seen price (traded_through_at seen price))
    → Serves (ShowsThrough roster desk sym price) old new (Some before) (Some after) false
shows_through roster old new desk sym price seen before after went text events h =
    let told = through_records roster desk seen price (traded_through_at seen price) in (
      (step.Look desk sym, Ok (reply.Seen seen)) ∷ [],
      told,
      (seen, refl, refl),
      goes_on old new events (step.Look desk sym, Ok (reply.Seen seen)) went h,
      text,
      through_refuses_none roster desk seen price (traded_through_at seen price),
    )

-- a look at a price that trades through nothing
pub shows_nothing_through : (roster : Listing) (old new : State) (desk symbol price : ℕ) (seen : Seen) (before after : List ℕ)
    → WentOn old new (step.Look desk symbol, Ok (reply.Seen seen)) → traded_through_at seen price ≡ []
    → after ≡ before ++ text_of (through_head roster desk seen price 0 ∷ [])
    → Serves (ShowsThrough roster desk symbol price) old new (Some before) (Some after) false
shows_nothing_through roster old new desk symbol price seen before after went none text =
    shows_through roster old new desk symbol price seen before after went
    (subst (λ (quotations : List (Side × Row)). after ≡ before ++ text_of (through_records roster desk seen price quotations)) (sym none)
    text)

-- a look, and a plan of what it showed
pub shows_plan : (settings : Settings) (old new : State) (desk : ℕ) (order : Terms) (seen : Seen) (plan : Plan) (cuts : List Cut)
    (before after : List ℕ)
    → WentOn old new (step.Look desk order.sym, Ok (reply.Seen seen)) → IsAccepted seen order settings.fees plan cuts
    → after ≡ before ++ text_of (plan_records settings.roster plan cuts)
    → Serves (ShowsPlan settings desk order) old new (Some before) (Some after) false
shows_plan settings old new desk order seen plan cuts before after went accepted text events h = (
  (step.Look desk order.sym, Ok (reply.Seen seen)) ∷ [],
  plan_records settings.roster plan cuts,
  (seen, plan, cuts, refl, accepted, refl),
  goes_on old new events (step.Look desk order.sym, Ok (reply.Seen seen)) went h,
  text,
  plan_refuses_none settings.roster plan cuts,
)

-- the tape was full
pub takes_full : (number : ℕ) (old new : State) (before after : List ℕ) → TakesUntil fault.TapeFull old new
    → after ≡ before ++ text_of (told_by number (Err fault.TapeFull)) → Serves (AsksAll number) old new (Some before) (Some after) true
takes_full number old new before after until text events h =
    let so_far = until events h in
    let last : Event = (step.Take, Err fault.TapeFull) in (
      so_far.0 ++ last ∷ [],
      told_by number (Err fault.TapeFull),
      (Err fault.TapeFull, (so_far.0, so_far.1, refl), refl),
      subst (IsAfter new) (append_assoc events so_far.0 (last ∷ [])) so_far.2,
      text,
      refl,
    )

-- the queue was empty, and the tape was published
pub takes_all : (number : ℕ) (old drained new : State) (r : Reply) (before after : List ℕ) → TakesUntil fault.QueueEmpty old drained
    → WentOn drained new (step.Publish, Ok r)
    → after ≡ before ++ text_of (told_by number (Ok r)) → count_by is_refusal (told_by number (Ok r)) ≡ 0
    → Serves (AsksAll number) old new (Some before) (Some after) false
takes_all number old drained new r before after until went text none events h =
    let so_far = until events h in
    let empty : Event = (step.Take, Err fault.QueueEmpty) in
    let shown : Event = (step.Publish, Ok r) in
    let after_all : IsAfter new (((events ++ so_far.0) ++ empty ∷ []) ++ shown ∷ []) =
    goes_on drained new ((events ++ so_far.0) ++ empty ∷ []) shown went so_far.2 in
    let joined : ((events ++ so_far.0) ++ empty ∷ []) ++ shown ∷ [] ≡ events ++ (so_far.0 ++ empty ∷ shown ∷ []) =
    append_assoc (events ++ so_far.0) (empty ∷ []) (shown ∷ []) ∙ append_assoc events so_far.0 (empty ∷ shown ∷ []) in (
      so_far.0 ++ empty ∷ shown ∷ [],
      told_by number (Ok r),
      (Ok r, (so_far.0, so_far.1, refl), refl),
      subst (IsAfter new) joined after_all,
      text,
      none,
    )

-- a taking was refused, and not for an empty queue or for memory
pub takes_refused : (number : ℕ) (old new : State) (before after : List ℕ) (why : StepFault) (told : Result Bool AllocError)
    → TakesUntil why old new
    → why ≢ fault.QueueEmpty → why ≢ fault.QueueFull → why ≢ fault.NoMemory
    → IfOk told (λ refused. (refused ≡ true) × (after ≡ before ++ text_of (told_by number (Err why))))
    → IfOk told (Serves (AsksAll number) old new (Some before) (Some after))
takes_refused number old new before after fault.QueueFull told until a b c h = absurd (b refl)
takes_refused number old new before after fault.QueueEmpty told until a b c h = absurd (a refl)
takes_refused number old new before after fault.TapeFull (Err e) until a b c h = tt
takes_refused number old new before after fault.TapeFull (Ok refused) until a b c h =
    subst (Serves (AsksAll number) old new (Some before) (Some after)) (sym h.0) (takes_full number old new before after until h.1)
takes_refused number old new before after fault.NoMemory told until a b c h = absurd (c refl)
