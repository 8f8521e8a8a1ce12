-- What the feeds' workers returned, each for its sender, and what they all did.
use Rattle.std.proofs.Common.{ℕ, ◌≡◌, ◌≢◌, ◌++◌, ◌∷◌, List, [], map, take, Option, Some, None, IfSome, refl}
use Rattle.std.proofs.Common.{ap, sym, ◌∙◌}
use Rattle.std.specs.List.{AllByRecursion, AllZip}
use Rattle.std.specs.declared.thread.PromisedHandle.{PromisedHandle}
use Rattle.nms_quote.specs.Merge.{feeds}
use Rattle.nms_quote.specs.Roster.{Listing}
use Rattle.nms_feed.specs.Lane.{AreSendersOf, Sending, Taking}
use Rattle.nms_live.specs.Crew.{HasKept, IsFedBy, WillBeFed, first_stop}
use Rattle.nms_live.specs.Faults.{first_among, first_fault}
use Rattle.nms_live.specs.Reading.{IsLiveFault}
use Rattle.nms_live.specs.declared.fed_feed.Fed.{Fed}
use Rattle.nms_live.specs.declared.fed_feed.FeedJob.{FeedJob}
use Rattle.nms_live.specs.declared.live_fault.LiveFault.{LiveFault}
use Rattle.nms_live.proofs.FaultFacts.{fed_fault, first_of_two, none_of_two}

-- one more pair
pub zip_more : {A B : Type 0} (R : A → B → Type 0) (xs : List A) (ys : List B) (x : A) (y : B) → AllZip R xs ys → R x y
    → AllZip R (xs ++ x ∷ []) (ys ++ y ∷ [])
zip_more R [] [] x y all here = (here, tt)
zip_more R [] (b ∷ ys) x y all here = absurd all
zip_more R (a ∷ xs) [] x y all here = absurd all
zip_more R (a ∷ xs) (b ∷ ys) x y all here = (all.0, zip_more R xs ys x y all.1 here)

-- what was started and kept its promise is fed
pub fed_all : (roster : Listing) (texts : List (List ℕ)) (senders : List Sending) (handles : List (PromisedHandle Fed FeedJob))
    (fed : List Fed)
    → AllZip (WillBeFed roster texts) senders handles → AllZip HasKept handles fed → AllZip (IsFedBy roster texts) senders fed
fed_all roster texts [] [] [] started kept = tt
fed_all roster texts [] [] (back ∷ fed) started kept = absurd kept
fed_all roster texts [] (handle ∷ handles) fed started kept = absurd started
fed_all roster texts (sender ∷ senders) [] fed started kept = absurd started
fed_all roster texts (sender ∷ senders) (handle ∷ handles) [] started kept = absurd kept
fed_all roster texts (sender ∷ senders) (handle ∷ handles) (back ∷ fed) started kept =
    (started.0 back kept.0, fed_all roster texts senders handles fed started.1 kept.1)

-- what came back is of the lane
lanes_back : (roster : Listing) (texts : List (List ℕ)) (senders : List Sending) (fed : List Fed) (taker other : Taking)
    → other.lane ≡ taker.lane
    → AllZip (IsFedBy roster texts) senders fed → AllByRecursion (λ s. s.lane ≡ taker.lane) senders
    → AllByRecursion (λ s. s.lane ≡ other.lane) (map (λ back. back.sender) fed)
lanes_back roster texts [] [] taker other same all lanes = tt
lanes_back roster texts [] (back ∷ fed) taker other same all lanes = absurd all
lanes_back roster texts (sender ∷ senders) [] taker other same all lanes = absurd all
lanes_back roster texts (sender ∷ senders) (back ∷ fed) taker other same all lanes =
    (all.0.lane_is ∙ lanes.0 ∙ sym same, lanes_back roster texts senders fed taker other same all.1 lanes.1)

-- and of the feeds that went
feeds_back : (roster : Listing) (texts : List (List ℕ)) (senders : List Sending) (fed : List Fed)
    → AllZip (IsFedBy roster texts) senders fed
    → map (λ s. s.feed) (map (λ back. back.sender) fed) ≡ map (λ s. s.feed) senders
feeds_back roster texts [] [] all = refl
feeds_back roster texts [] (back ∷ fed) all = absurd all
feeds_back roster texts (sender ∷ senders) [] all = absurd all
feeds_back roster texts (sender ∷ senders) (back ∷ fed) all = rw (all.0.feed_is, feeds_back roster texts senders fed all.1) refl

-- the senders that came back are those that went, by lane and feed
pub ends_back : (roster : Listing) (texts : List (List ℕ)) (senders : List Sending) (fed : List Fed) (taker other : Taking)
    → other.lane ≡ taker.lane → other.senders ≡ taker.senders
    → AreSendersOf taker senders → AllZip (IsFedBy roster texts) senders fed → AreSendersOf other (map (λ back. back.sender) fed)
ends_back roster texts senders fed taker other lane count of all = record {
  one_lane = lanes_back roster texts senders fed taker other lane all of.one_lane;
  in_order = feeds_back roster texts senders fed all ∙ of.in_order ∙ ap (λ n. take n feeds) (sym count);
}

-- what the workers stopped with says what the texts say
among_fed : (roster : Listing) (texts : List (List ℕ)) (senders : List Sending) (fed : List Fed) (fault : Option LiveFault)
    → IfSome fault (IsLiveFault roster texts)
    → AllZip (IsFedBy roster texts) senders fed → IfSome (first_among (λ back. back.stop) fault fed) (IsLiveFault roster texts)
among_fed roster texts [] [] fault of all = of
among_fed roster texts [] (back ∷ fed) fault of all = absurd all
among_fed roster texts (sender ∷ senders) [] fault of all = absurd all
among_fed roster texts (sender ∷ senders) (back ∷ fed) fault of all =
    among_fed roster texts senders fed (first_fault fault back.stop)
    (first_of_two roster texts fault back.stop of (fed_fault roster texts sender.feed back.sender.sent back.stop all.0.fed)) all.1

pub fault_of_fed : (roster : Listing) (texts : List (List ℕ)) (senders : List Sending) (fed : List Fed)
    → AllZip (IsFedBy roster texts) senders fed
    → IfSome (first_stop fed) (IsLiveFault roster texts)
fault_of_fed roster texts senders fed all = among_fed roster texts senders fed None tt all

-- if there is no fault among them, none of them stopped
none_among : (fed : List Fed) (fault : Option LiveFault) → first_among (λ back. back.stop) fault fed ≡ None
    → (fault ≡ None) × AllByRecursion (λ back. back.stop ≡ None) fed
none_among [] fault none = (none, tt)
none_among (back ∷ fed) fault none =
    let more = none_among fed (first_fault fault back.stop) none in
    let both = none_of_two fault back.stop more.0 in
    (both.0, (both.1, more.1))

pub none_stopped : (fed : List Fed) → first_stop fed ≡ None → AllByRecursion (λ back. back.stop ≡ None) fed
none_stopped fed none = (none_among fed None none).1

-- what is answered is the first of them, unless there is none
pub none_first : (first result : Option LiveFault) → (first ≢ None → result ≡ first) → result ≡ None → first ≡ None
none_first None result step none = refl
none_first (Some why) result step none = absurd (some_none (sym (step (λ is. some_none is)) ∙ none))
  where
    some_none : {X : Type 0} {x : X} → Some x ≡ None → ⊥
    some_none is = absurd (cc)

-- what came back by their senders
pub sent_back : (senders : List Sending) (fed : List Fed) → senders ≡ map (λ back. back.sender) fed
    → map (λ s. s.sent) senders ≡ map (λ back. back.sender.sent) fed
sent_back senders fed is = ap (map (λ (s : Sending). s.sent)) is ∙ again fed
  where
    again : (backs : List Fed) → map (λ (s : Sending). s.sent) (map (λ back. back.sender) backs) ≡ map (λ back. back.sender.sent) backs
    again [] = refl
    again (back ∷ backs) = ap (λ l. back.sender.sent ∷ l) (again backs)
