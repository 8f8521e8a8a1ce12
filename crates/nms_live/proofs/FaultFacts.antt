-- Why a run gives nothing, made of what its workers stopped with.
use Rattle.std.proofs.Common.{ℕ, ◌≡◌, ◌+◌, ◌++◌, ◌∷◌, ◌⊎◌, Bool, true, false, List, [], length, Option, Some, None, Err, IfSome, inl, inr}
use Rattle.std.proofs.Common.{refl, sym, ◌∙◌, subst, if◌then◌else◌}
use Rattle.std.specs.Prelude.{is_some, nat_lt}
use Rattle.nms_quote.specs.Roster.{Listing}
use Rattle.nms_quote.specs.declared.change.Change.{Change}
use Rattle.nms_quote.specs.declared.feed.Feed.{Feed}
use Rattle.nms_lines.specs.Layout.{Record}
use Rattle.nms_lines.specs.Records.{BeginRecords}
use Rattle.nms_lines.specs.declared.line_fault.LineFault.{LineFault}
use Rattle.nms_live.specs.Faults.{IfLine, IsNoLine, IsNoLineIfAny, first_fault, rank_of}
use Rattle.nms_lines.specs.ChangeReading.{feed_reading}
use Rattle.nms_live.specs.Reading.{IsFed, IsFeedFault, IsFirstRefused, IsLiveFault, IsRead, IsRefusal, Says, text_of}
use Rattle.nms_live.specs.declared.live_fault.LiveFault.{LiveFault}
use Rattle.nms_live.specs.declared.live_fault.LiveFault.TheVariants as fault

-- what follows of each fault of a record
if_line : (P Q : Feed → ℕ → LineFault → Type 0) (why : LiveFault)
    → ((of : Feed) (number : ℕ) (own : LineFault) → P of number own → Q of number own) → IfLine P why → IfLine Q why
if_line P Q (fault.Line of number own) step holds = step of number own holds
if_line P Q fault.Open step holds = tt
if_line P Q fault.Append step holds = tt
if_line P Q fault.Desk step holds = tt
if_line P Q fault.GateLimit step holds = tt
if_line P Q fault.NoMemory step holds = tt

-- the record after those that say changes is the first that is refused
pub first_refused : (roster : Listing) (feed : Feed) (text : List ℕ) (records : List Record) (fields : Record) (changes : List Change)
    (place : ℕ) (why : LiveFault)
    → BeginRecords (Some text) (records ++ fields ∷ []) → Says roster feed records changes → place ≡ length records + 1
    → IsRefusal feed place (feed_reading roster feed fields) why → IsFeedFault roster feed text why
first_refused roster feed text records fields changes place why begins said counted refusal =
    if_line (λ of number own. (of ≡ feed) × (number ≡ place) × (feed_reading roster feed fields ≡ Err own))
    (λ of number own. (of ≡ feed) × IsFirstRefused roster feed text number own) why
    (λ of number own is. (
      is.0,
      record {
        before = records;
        refused = fields;
        changes = changes;
        begins = begins;
        said = said;
        fault = is.2;
        counted = is.1 ∙ counted;
      },
    )) refusal

-- a worker that did not stop early read its text to the end
pub fed_whole : (roster : Listing) (feed : Feed) (text : List ℕ) (sent : List Change) (stop : Option LiveFault) → stop ≡ None
    → IsFed roster feed text sent stop → IsRead roster feed text sent
fed_whole roster feed text sent None none fed = fed
fed_whole roster feed text sent (Some why) none fed = absurd (cc)

-- why a feed's worker stopped is why the run gives nothing
pub fed_fault : (roster : Listing) (texts : List (List ℕ)) (feed : Feed) (sent : List Change) (stop : Option LiveFault)
    → IsFed roster feed (text_of feed texts) sent stop
    → IfSome stop (IsLiveFault roster texts)
fed_fault roster texts feed sent None fed = tt
fed_fault roster texts feed sent (Some why) fed =
    if_line (λ of number own. (of ≡ feed) × IsFirstRefused roster feed (text_of feed texts) number own)
    (λ of number own. IsFirstRefused roster of (text_of of texts) number own) why
    (λ of number own is. subst (λ (f : Feed). IsFirstRefused roster f (text_of f texts) number own) (sym is.0) is.1) fed

-- a fault that is none of a record says nothing of the texts
pub no_line_fault : (roster : Listing) (texts : List (List ℕ)) (why : LiveFault) → IsNoLine why → IsLiveFault roster texts why
no_line_fault roster texts why fine = if_line (λ of number own. ⊥) (λ of number own. IsFirstRefused roster of
    (text_of of texts) number own) why (λ of number own none. absurd none) fine

pub no_line_if_any : (roster : Listing) (texts : List (List ℕ)) (stop : Option LiveFault) → IsNoLineIfAny stop
    → IfSome stop (IsLiveFault roster texts)
no_line_if_any roster texts None fine = tt
no_line_if_any roster texts (Some why) fine = no_line_fault roster texts why fine

-- the first of two faults is one of them
pub first_of_two : (roster : Listing) (texts : List (List ℕ)) (one other : Option LiveFault) → IfSome one (IsLiveFault roster texts)
    → IfSome other (IsLiveFault roster texts)
    → IfSome (first_fault one other) (IsLiveFault roster texts)
first_of_two roster texts None other of_one of_other = of_other
first_of_two roster texts (Some one) None of_one of_other = of_one
first_of_two roster texts (Some one) (Some other) of_one of_other =
    elim (nat_lt (rank_of other) (rank_of one)) as (λ b. IfSome (if b then Some other else Some one) (IsLiveFault roster texts)) [
      | true ↦ of_other
      | false ↦ of_one
    ]

-- if there is no first of two, there is neither
pub none_of_two : (one other : Option LiveFault) → first_fault one other ≡ None → (one ≡ None) × (other ≡ None)
none_of_two None other none = (refl, none)
none_of_two (Some one) None none = absurd (cc)
none_of_two (Some one) (Some other) none = absurd (some_of_two (nat_lt (rank_of other) (rank_of one)) none)
  where
    some_of_two : (b : Bool) → (if b then Some other else Some one) ≡ None → ⊥
    some_of_two true none = absurd (cc)
    some_of_two false none = absurd (cc)

-- the fault of the feeds or of the taker
pub fault_of_ends : (roster : Listing) (texts : List (List ℕ)) (first result : Option LiveFault) → IfSome first (IsLiveFault roster texts)
    → IfSome result (λ why. (first ≡ Some why) ⊎ IsNoLine why) → IfSome result (IsLiveFault roster texts)
fault_of_ends roster texts first None of either = tt
fault_of_ends roster texts first (Some why) of (inl is) = subst (λ (o : Option LiveFault). IfSome o (IsLiveFault roster texts)) is of
fault_of_ends roster texts first (Some why) of (inr fine) = no_line_fault roster texts why fine

-- a feed's fault, or that of the taker or of a desk
pub fault_of_all : (roster : Listing) (texts : List (List ℕ)) (fed stop first result : Option LiveFault)
    → IfSome fed (IsLiveFault roster texts) → IsNoLineIfAny stop → (first ≡ fed) ⊎ (first ≡ stop) → (result ≡ first) ⊎ IsNoLineIfAny result
    → IfSome result (IsLiveFault roster texts)
fault_of_all roster texts fed stop first result of_feed of_taker (inl is) (inl same) = rw (same, is) of_feed
fault_of_all roster texts fed stop first result of_feed of_taker (inr is) (inl same) =
    rw (same, is) (no_line_if_any roster texts stop of_taker)
fault_of_all roster texts fed stop first result of_feed of_taker either (inr fine) = no_line_if_any roster texts result fine

-- a fault is not none
pub not_some : {X Y : Type 0} {x : X} → Some x ≡ None → Y
not_some is = absurd (cc)

-- what is some is not none
pub some_not_none : {X Y : Type 0} (o : Option X) → is_some o ≡ true → o ≡ None → Y
some_not_none None some none = absurd (cc)
some_not_none (Some x) some none = absurd (cc)

-- a fault that is the first one is the first one or no line
pub first_known : (fault first : Option LiveFault) → fault ≡ first → IfSome fault (λ why. (first ≡ Some why) ⊎ IsNoLine why)
first_known None first is = tt
first_known (Some why) first is = inl (sym is)

-- no test says both
pub not_both : {Y : Type 0} {b : Bool} → b ≡ true → b ≡ false → Y
not_both on off = absurd (cc)
