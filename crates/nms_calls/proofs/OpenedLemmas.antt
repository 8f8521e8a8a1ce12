-- What a change leaves, how far a call with many changes comes, and the plan that a plan's numbers say.
use Rattle.std.proofs.Common.{◌≡◌, ◌==◌, ◌∙◌, ◌+◌, ◌<◌, ℕ, Ok, Err, None, Some, [], ◌∷◌, ◌++◌, fold, take, get_or, length, Bool, true, false, List}
use Rattle.std.proofs.Common.{Option, Result, if◌then◌else◌, sym, ap, ap₂, subst, refl, arith}
use Rattle.std.proofs.lemmas.List.{take_more}
use Rattle.std.proofs.lemmas.List.Folds.{fold_stuck}
use Rattle.std.proofs.lemmas.List.Sums.{fold_more}
use Rattle.std.specs.Prelude.{IfOk}
use Rattle.nms_quote.specs.Roster.{Sizes, holds, sizes_of}
use Rattle.nms_quote.specs.Tape.{Tape}
use Rattle.nms_quote.specs.Terms.{Terms}
use Rattle.nms_quote.specs.declared.certificate.Cut.{Cut}
use Rattle.nms_quote.specs.declared.change.Change.{Change}
use Rattle.nms_quote.specs.declared.plan.Plan.{Plan}
use Rattle.nms_quote.specs.declared.side_quote.Side.TheVariants.{Bid, Offer}
use Rattle.nms_board.proofs.Offered.{stands_after, takes_by}
use Rattle.nms_board.specs.Cells.{Board, IsBoard, StandsFor, takes}
use Rattle.nms_board.specs.Shown.{rows_held, seen_on}
use Rattle.nms_board.specs.View.{Seen}
use Rattle.nms_board.specs.declared.row.Row.{Row}
use Rattle.nms_cert.specs.Doubts.{doubt_of}
use Rattle.nms_cert.specs.declared.doubt.Doubt.{Doubt}
use Rattle.nms_fee_book.specs.Fees.{Charges}
use Rattle.nms_fees.specs.Settings.{Settings}
use Rattle.nms_nbbo.specs.Best.{IsBestOf}
use Rattle.nms_nbbo.specs.Market.{market_of}
use Rattle.nms_opening.specs.Rolling.{Rolled}
use Rattle.nms_rules.specs.Accepted.{IsAccepted}
use Rattle.nms_rules.specs.Assignment.{IsOptimal}
use Rattle.nms_rules.specs.Faultless.{given_by}
use Rattle.nms_rules.specs.Usable.{usable}
use Rattle.nms_sweep.specs.Planned.{Planned}
use Rattle.nms_calls.specs.ChangeSaid.{change_said}
use Rattle.nms_calls.specs.Findings.{doubt_on, finding, found_of, made_for, made_said, with_order}
use Rattle.nms_calls.specs.Opened.{AreApplied, GrewBy, HasApplied, IsApplied, IsOfRoster, Opened, Progress, all_applied, apply_fault}
use Rattle.nms_calls.specs.Opened.{from_start, later_fault, next, one_more, room_fault, sizes_on, tried, version}
use Rattle.nms_calls.specs.OrderSaid.{order_said}
use Rattle.nms_calls.specs.PlanNumbers.{AreNumbersOf, IsBestPlan}
use Rattle.nms_calls.specs.PlanSaid.{plan_said}
use Rattle.nms_calls.specs.RowNumbers.{AreBest, market_number, row_numbers}
use Rattle.nms_calls.specs.declared.call_fault.CallFault.{CallFault}
use Rattle.nms_calls.specs.declared.change_numbers.NmsChange.{NmsChange}
use Rattle.nms_calls.specs.declared.order_numbers.NmsOrder.{NmsOrder}
use Rattle.nms_calls.specs.declared.plan_numbers.NmsPlan.{NmsPlan}
use Rattle.nms_calls.specs.declared.row_numbers.NmsBest.{NmsBest}
use Rattle.nms_calls.proofs.VersionLemmas.{accepted_at, doubt_at, numbers_at}

-- a board of no change shows the empty tape
pub stands_for_nothing : (board : Board) → IsBoard board → board.applied ≡ 0 → StandsFor board []
stands_for_nothing board is none = of_tape is.tape is.stands
  where
    of_tape : (tape : Tape) → StandsFor board tape → StandsFor board []
    of_tape [] stands = stands
    of_tape (change ∷ changes) stands = absurd (omega (arith, stands.applied, none))

-- ---- one change

-- far from where the board goes over, a tape with the change shows what is left
pub grew_by : (old new : Opened) (change : Change) → IsOfRoster old → holds (sizes_on old) change ≡ true → HasApplied old new change
    → GrewBy change old new
grew_by old new change roster held applied = λ far tape stands.
    let taken : takes old.board change ≡ true =
    takes_by old.board change (subst (λ (sizes : Sizes). holds sizes change ≡ true) (sym roster) held) (omega (arith, far)) in
    subst (λ (board : Board). StandsFor board (tape ++ change ∷ [])) (sym (ap (λ (r : Rolled). r.board) (applied.taken.exact far)))
    (stands_after old.board tape change stands taken)

-- a change that is not refused is one that numbers say
pub one_said : (v : ℕ) (said : Result Change CallFault) (P : Change → Type 0) → room_fault v said ≡ None → IfOk said P
    → (change : Change) × P change
one_said v (Err found) P accepted holds = let e : Some found ≡ None = accepted in absurd (cc e)
one_said v (Ok change) P accepted holds = (change, holds)

-- it leaves the settings, and the version is one more
pub settings_kept : (n : NmsChange) (old new : Opened) → IsApplied n old new → new.settings ≡ old.settings
settings_kept n old new is =
    (one_said (version old) (change_said (sizes_on old) n) (HasApplied old new) is.accepted is.applied).1.settings

pub version_counted : (n : NmsChange) (old new : Opened) → IsApplied n old new → version new ≡ version old + 1
version_counted n old new is =
    (one_said (version old) (change_said (sizes_on old) n) (HasApplied old new) is.accepted is.applied).1.taken.counted

-- ---- many changes

-- why a change is refused after some that were applied is why the board refuses it then
pub later_is : (opened now : Opened) (applied : ℕ) (n : NmsChange) → now.settings ≡ opened.settings
    → version now ≡ version opened + applied → later_fault opened applied n ≡ apply_fault now n
later_is opened now applied n settings counted =
    sym (ap₂ (λ (s : Settings) (v : ℕ). room_fault v (change_said (sizes_of s.roster) n)) settings counted)

-- after a refusal the rest of many changes alters nothing
pub stopped_at : (opened : Opened) (changes : List NmsChange) (i applied : ℕ) (d : NmsChange) (found : CallFault) → i < length changes
    → record { applied = applied; fault = None } ≡ fold (next opened) from_start (take i changes)
    → later_fault opened applied (get_or changes i d) ≡ Some found
    → record { applied = applied; fault = Some found } ≡ all_applied opened changes
stopped_at opened changes i applied d found within reached refused =
    let n : NmsChange = get_or changes i d in
    let stopped : Progress = record { applied = applied; fault = Some found } in
    let step : next opened (fold (next opened) from_start (take i changes)) n ≡ stopped =
    ap (λ (p : Progress). next opened p n) (sym reached) ∙ ap (tried applied) refused in
    fold_stuck (next opened) stopped (λ x. refl) from_start changes i d within step

-- one that is applied is counted
pub went_on : (opened : Opened) (changes : List NmsChange) (i applied : ℕ) (d : NmsChange) → i < length changes
    → record { applied = applied; fault = None } ≡ fold (next opened) from_start (take i changes)
    → later_fault opened applied (get_or changes i d) ≡ None
    → record { applied = applied + 1; fault = None } ≡ fold (next opened) from_start (take (i + 1) changes)
went_on opened changes i applied d within reached accepted =
    let n : NmsChange = get_or changes i d in
    let went : Progress = record { applied = applied + 1; fault = None } in
    let step : next opened (fold (next opened) from_start (take i changes)) n ≡ went =
    ap (λ (p : Progress). next opened p n) (sym reached) ∙ ap (tried applied) accepted in
    sym (fold_more (next opened) from_start changes i d within ∙ step)

-- and what is left then
pub applied_more : (start old new : Opened) (changes : List NmsChange) (i : ℕ) (d : NmsChange) → i < length changes
    → AreApplied start (take i changes) old → IsApplied (get_or changes i d) old new → AreApplied start (take (i + 1) changes) new
applied_more start old new changes i d within before is =
    subst (λ (ns : List NmsChange). AreApplied start ns new) (sym (take_more changes i d within))
    (one_more (take i changes) (get_or changes i d) old new before is)

-- ---- a look

-- the place of a symbol that is there
pub place_is : (there : Bool) (symbol place : ℕ) (found : CallFault) → Ok symbol ≡ (if there then Ok place else Err found)
    → symbol ≡ place
place_is true symbol place found is = cc is
place_is false symbol place found is = let e : Ok symbol ≡ Err found = is in absurd (cc e)

-- the best rows of the board that is shown, in the version
pub best_are : (opened : Opened) (board : Board) (symbol place : ℕ) (bid offer : Option Row) (out : NmsBest) → board ≡ opened.board
    → symbol ≡ place → IsBestOf Bid (rows_held board symbol Bid) bid → IsBestOf Offer (rows_held board symbol Offer) offer
    → out ≡ record {
      version = version opened;
      bid = row_numbers bid;
      offer = row_numbers offer;
      market = market_number (market_of bid offer);
      spare = 0;
    }
    → AreBest opened place out
best_are opened board symbol place bid offer out board_is at_place best_bid best_offer numbers =
    let there : AreBest opened symbol out = record {
      bid = bid;
      offer = offer;
      best_bid = subst (λ (b : Board). IsBestOf Bid (rows_held b symbol Bid) bid) board_is best_bid;
      best_offer = subst (λ (b : Board). IsBestOf Offer (rows_held b symbol Offer) offer) board_is best_offer;
      numbers = numbers;
    } in
    subst (λ (at : ℕ). AreBest opened at out) at_place there

-- ---- a plan

-- if the order's plan is accepted, its numbers with the version of the look are those of the best plan
pub best_when : (opened : Opened) (n : NmsOrder) (order : Terms) (fees : Charges) (made : Planned) (plan : Plan) (cuts : List Cut)
    (numbers : NmsPlan) (counted : ℕ)
    → order_said (sizes_on opened) n ≡ Ok order → fees ≡ opened.settings.fees → plan ≡ made.plan → cuts ≡ made.cuts
    → AreNumbersOf plan cuts numbers → counted ≡ version opened
    → IsAccepted (seen_on opened.board order.sym) order fees made.plan made.cuts
    → IsOptimal (usable (seen_on opened.board order.sym) order fees) order.shares (given_by made.plan.legs.items)
    → IfOk (order_said (sizes_on opened) n) (λ order. IsBestPlan opened order (record numbers { version = counted }))
best_when opened n order fees made plan cuts numbers counted said of_fees of_plan of_cuts are counted_is accepted optimal =
    let best : IsBestPlan opened order (record numbers { version = counted }) =
    subst (λ (v : ℕ). IsBestPlan opened order (record numbers { version = v })) (sym counted_is) (record {
      plan = record made.plan { version = version opened };
      certificate = made.cuts;
      numbers = numbers_at made.plan made.cuts numbers (version opened)
          (subst (λ (p : Plan). AreNumbersOf p made.cuts numbers) of_plan (subst (λ (cs : List Cut). AreNumbersOf plan cs numbers) of_cuts
          are));
      accepted = accepted_at (seen_on opened.board order.sym) order opened.settings.fees made.plan made.cuts (version opened)
          (subst (λ (f : Charges). IsAccepted (seen_on opened.board order.sym) order f made.plan made.cuts) of_fees accepted);
      optimal = subst (λ (f : Charges). IsOptimal (usable (seen_on opened.board order.sym) order f) order.shares (given_by
          made.plan.legs.items)) of_fees optimal;
    }) in
    subst (λ (r : Result Terms CallFault). IfOk r (λ order. IsBestPlan opened order (record numbers { version = counted }))) (sym said) best

-- the plan that numbers say for the order that numbers say
pub made_when : (opened : Opened) (n : NmsOrder) (m : NmsPlan) (order : Terms) (made : Planned) → order_said (sizes_on opened) n ≡ Ok order
    → plan_said (length opened.settings.roster.parts) order m ≡ Ok made → made_said opened.settings n m ≡ Ok (order, made)
made_when opened n m order made said is = ap (made_for opened.settings m) said ∙ ap (with_order order) is

-- what is found about it, on the board that is shown with the plan in the version that this board counts
pub finding_when : (opened : Opened) (n : NmsOrder) (m : NmsPlan) (order : Terms) (made : Planned) (own : ℕ) (seen : Seen) (fees : Charges)
    (found : Option Doubt)
    → order_said (sizes_on opened) n ≡ Ok order → plan_said (length opened.settings.roster.parts) order m ≡ Ok made
    → seen ≡ seen_on opened.board order.sym → fees ≡ opened.settings.fees
    → (own == opened.board.applied) ≡ (made.plan.version == version opened)
    → found ≡ doubt_of seen order fees (record made.plan { version = own }) made.cuts → finding opened n m ≡ Ok found
finding_when opened n m order made own seen fees found said is seen_is fees_is same found_is =
    let as_found : Option Doubt → Result (Option Doubt) CallFault = λ doubt. Ok doubt in
    let there : doubt_of seen order fees (record made.plan { version = own }) made.cuts ≡ doubt_on opened order made =
    ap₂ (λ (s : Seen) (f : Charges). doubt_of s order f (record made.plan { version = own }) made.cuts) seen_is fees_is
    ∙ doubt_at (seen_on opened.board order.sym) order opened.settings.fees made.plan made.cuts own (version opened) same in
    ap (found_of opened) (made_when opened n m order made said is) ∙ ap as_found (sym (found_is ∙ there))
