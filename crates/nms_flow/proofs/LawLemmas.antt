-- What follows of runs.
use Rattle.std.proofs.Common.{ℕ, ◌≡◌, ◌≢◌, ◌+◌, ◌≤◌, Bool, true, false, AllPairs, List, [], ◌∷◌, ◌++◌, length, map, Option, Some, None, Ok}
use Rattle.std.proofs.Common.{Err, refl, sym, ap, subst, ◌∙◌, arith, inl, inr, length-append, if◌then◌else◌, ◌==◌}
use Rattle.std.specs.Prelude.{All, option_to_list}
use Rattle.std.specs.Cmp.{nat_eq_equiv}
use Rattle.std.specs.List.{cons_option}
use Rattle.std.proofs.Math.ListN.{length-map}
use Rattle.std.proofs.Math.Seq.{take-append_seam}
use Rattle.std.proofs.lemmas.Option.{slice_get_within}
use Rattle.std.proofs.lemmas.List.Quantifiers.{all_pairs_push}
use Rattle.std.proofs.lemmas.List.{append-nil, length-drop, length-take-le, take-append-drop, take-append-le}
use Rattle.std.proofs.lemmas.List.Elements.{All-head, All-nil, All-push, All-tail}
use Rattle.nms_quote.specs.Merge.{IsMerge, changes_of, feeds, is_of_feed, is_same_feed, of_feed, own_of, place_of}
use Rattle.nms_quote.specs.Roster.{Listing, feed_of_change}
use Rattle.nms_quote.specs.declared.change.Change.{Change}
use Rattle.nms_quote.specs.declared.feed.Feed.{Feed}
use Rattle.nms_quote.specs.declared.feed.Feed.TheVariants as feed
use Rattle.nms_quote.specs.declared.marked.Marked.{Marked}
use Rattle.nms_flow.specs.Laws.{IsOnOwnFeed, fed_by, sent_on, version_for, versions_of}
use Rattle.nms_flow.specs.Run.{Answer, Event, IsAnswered, IsRun, Room, Standing, after, answer_to, answer_to_send, answer_to_take}
use Rattle.nms_flow.specs.Run.{changes_in, is_answered, queue_at, sent_by, sent_in, standing_after, tape_at, version_at}
use Rattle.nms_flow.specs.declared.step.Step.{Step}
use Rattle.nms_flow.specs.declared.step.Step.TheVariants as step
use Rattle.nms_flow.specs.declared.reply.Reply.TheVariants as reply
use Rattle.nms_flow.specs.declared.step_fault.StepFault.TheVariants as fault
use Rattle.nms_flow.proofs.ListFacts.{by_last, slice_get-front, slice_get-seam}
use Rattle.nms_flow.proofs.RunLemmas.{after_nothing, filter_map-push, standing_after-push}

-- what a feed sent, of one marked change
given : Feed → Option Marked → Option Change
given feed None = None
given feed (Some marked) = if is_same_feed feed marked.feed then Some marked.change else None

of_feed-cons : (feed : Feed) (first : Option Marked) (rest : List Marked)
    → of_feed feed (cons_option first rest) ≡ cons_option (given feed first) (of_feed feed rest)
unfolding of_feed given
of_feed-cons feed None rest = refl
of_feed-cons feed (Some marked) rest =
    elim (is_same_feed feed marked.feed) as (λ b. (if b then marked.change ∷ of_feed feed rest else of_feed feed rest)
    ≡ cons_option (if b then Some marked.change else None) (of_feed feed rest)) [ true ↦ refl | false ↦ refl ]

given-sent : (feed : Feed) (event : Event) → given feed (sent_in event) ≡ (if is_answered event.1 then sent_on feed event.0 else None)
unfolding given
given-sent feed (asked, Err fault) = refl
given-sent feed (step.Send on change, Ok r) = refl
given-sent feed (step.Take, Ok r) = refl
given-sent feed (step.Publish, Ok r) = refl
given-sent feed (step.Tell desk, Ok r) = refl
given-sent feed (step.Look desk symbol, Ok r) = refl

-- the changes sent with a feed's mark are those that the feed sent
pub of_feed-sent_by : (feed : Feed) (events : List Event) → of_feed feed (sent_by events) ≡ fed_by feed events
unfolding of_feed
of_feed-sent_by feed [] = refl
of_feed-sent_by feed (event ∷ events) =
    of_feed-cons feed (sent_in event) (sent_by events)
    ∙ ap (λ o. cons_option o (of_feed feed (sent_by events))) (given-sent feed event)
    ∙ ap (cons_option (if is_answered event.1 then sent_on feed event.0 else None)) (of_feed-sent_by feed events)

-- if lists are made for each feed, a feed's list is the one that is made for it
own_of-each : {X : Type 0} (list : Feed → List X) (f : Feed) → own_of f (map list feeds) ≡ list f
own_of-each list feed.A = refl
own_of-each list feed.B = refl
own_of-each list feed.C = refl
own_of-each list feed.D = refl
own_of-each list feed.E = refl
own_of-each list feed.F = refl
own_of-each list feed.G = refl
own_of-each list feed.H = refl

pub is_merge : (events : List Event) → IsMerge (map (λ f. fed_by f events) feeds) (sent_by events)
is_merge events = λ f. of_feed-sent_by f events ∙ sym (own_of-each (λ g. fed_by g events) f)

pub tape_and_queue : (events : List Event) → tape_at (standing_after events) ++ queue_at (standing_after events)
    ≡ changes_in (sent_by events)
tape_and_queue events = take-append-drop (standing_after events).taken (changes_in (sent_by events))

-- two feeds are one either way round
same_feed-sym : (one other : Feed) → is_same_feed one other ≡ is_same_feed other one
same_feed-sym one other = nat_eq_equiv.symm (place_of one) (place_of other)

-- a tape's changes that belong to a feed are those that bear its mark
changes_of-marked : (roster : Listing) (feed : Feed) (marked : List Marked) → All (IsOnOwnFeed roster) marked
    → changes_of roster feed (changes_in marked) ≡ of_feed feed marked
unfolding of_feed
changes_of-marked roster feed [] own = refl
changes_of-marked roster feed (m ∷ ms) own =
    let first : feed_of_change roster m.change ≡ Some m.feed = All-head (IsOnOwnFeed roster) m ms own in
    let rest : changes_of roster feed (changes_in ms) ≡ of_feed feed ms =
    changes_of-marked roster feed ms (All-tail (IsOnOwnFeed roster) m ms own) in
    let test : is_of_feed (feed_of_change roster m.change) feed ≡ is_same_feed feed m.feed = ap (λ o. is_of_feed o feed) first
    ∙ same_feed-sym m.feed feed in
    ap (λ b. if b then m.change ∷ changes_of roster feed (changes_in ms) else changes_of roster feed (changes_in ms)) test
    ∙ ap (λ cs. if is_same_feed feed m.feed then m.change ∷ cs else cs) rest

pub belonging : (roster : Listing) (events : List Event) (feed : Feed) → All (IsOnOwnFeed roster) (sent_by events)
    → changes_of roster feed (changes_in (sent_by events)) ≡ fed_by feed events
belonging roster events feed own = changes_of-marked roster feed (sent_by events) own ∙ of_feed-sent_by feed events

-- no more is published than was taken, and no more taken than sent
record IsSound (at : Standing) : Type 0 where
  published : at.published ≤ at.taken
  taken : at.taken ≤ length at.sent

-- after an event that still holds, and the published version did not fall
record GoesUp (at next : Standing) : Type 0 where
  sound : IsSound next
  up : at.published ≤ next.published

same_place : (at next : Standing) → next ≡ at → IsSound at → GoesUp at next
same_place at next same sound = rw same (record { sound = sound; up = omega arith })

after_send : (room : Room) (at : Standing) (on : Feed) (change : Change) → IsSound at
    → GoesUp at (after at (step.Send on change, answer_to_send room at))
after_send room at on change sound = by_room (length (queue_at at) == room.queue)
  where
    by_room : (full : Bool) → GoesUp at (after at (step.Send on change, if full then Err fault.QueueFull else Ok reply.Sent))
    by_room true = same_place at _ (after_nothing at (step.Send on change, Err fault.QueueFull) refl refl refl) sound
    by_room false = record {
      sound = record {
        published = omega (arith, sound.published);
        taken = omega (arith, sound.taken, length-append at.sent ((record { feed = on; change = change }) ∷ []));
      };
      up = omega arith;
    }

after_take : (room : Room) (at : Standing) → IsSound at → GoesUp at (after at (step.Take, answer_to_take room at))
after_take room at sound = by_queue (length (queue_at at) == 0) refl
  where
    by_tape : (full : Bool) → at.taken + 1 ≤ length at.sent
        → GoesUp at (after at (step.Take, if full then Err fault.TapeFull else Ok (reply.Taken (at.taken + 1))))
    by_tape true more = same_place at _ (after_nothing at (step.Take, Err fault.TapeFull) refl refl refl) sound
    by_tape false more = record {
      sound = record { published = omega (arith, sound.published); taken = omega (arith, more, length-append at.sent []) };
      up = omega arith;
    }

    by_queue : (empty : Bool) → (length (queue_at at) == 0) ≡ empty
        → GoesUp at (after at (
          step.Take,
          if empty then Err fault.QueueEmpty else (if at.taken == room.tape then Err fault.TapeFull else Ok (reply.Taken (at.taken + 1))),
        ))
    by_queue true is = same_place at _ (after_nothing at (step.Take, Err fault.QueueEmpty) refl refl refl) sound
    by_queue false is =
        let some : length (queue_at at) ≢ 0 = λ e. cc (ap (λ n. n == 0) e) in
        by_tape (at.taken == room.tape) (omega (
          arith,
          some,
          length-drop at.taken (changes_in at.sent),
          length-map at.sent (λ (m : Marked). m.change),
        ))

after_answer : (room : Room) (at : Standing) (asked : Step) → IsSound at → GoesUp at (after at (asked, answer_to room at asked))
after_answer room at (step.Send on change) sound = after_send room at on change sound
after_answer room at step.Take sound = after_take room at sound
after_answer room at step.Publish sound = record {
  sound = record { published = omega arith; taken = omega (arith, sound.taken, length-append at.sent []) };
  up = sound.published;
}
after_answer room at (step.Tell desk) sound =
    same_place at _ (after_nothing at (step.Tell desk, answer_to room at (step.Tell desk)) refl refl refl) sound
after_answer room at (step.Look desk symbol) sound =
    same_place at _ (after_nothing at (step.Look desk symbol, answer_to room at (step.Look desk symbol)) refl refl refl) sound

after_event : (room : Room) (at : Standing) (event : Event) → IsSound at → IsAnswered room at event → GoesUp at (after at event)
after_event room at (asked, answer) sound (inl is) =
    subst (λ (a : Answer). GoesUp at (after at (asked, a))) (sym is) (after_answer room at asked sound)
after_event room at (asked, answer) sound (inr wants) =
    subst (λ (a : Answer). GoesUp at (after at (asked, a))) (sym wants.answer)
    (same_place at _ (after_nothing at (asked, Err fault.NoMemory) refl refl refl) sound)

-- how long the published version is
version_len : (at : Standing) → IsSound at → length (version_at at) ≡ at.published
version_len at sound =
    let taken : length (tape_at at) ≡ at.taken =
    length-take-le at.taken (changes_in at.sent) (omega (arith, sound.taken, length-map at.sent (λ (m : Marked). m.change))) in
    length-take-le at.published (tape_at at) (omega (arith, taken, sound.published))

-- a desk is shown and learns of the published version
shown_is : (room : Room) (at : Standing) (desk : ℕ) (asked : Step) (v : ℕ) → IsSound at
    → version_for desk (asked, answer_to room at asked) ≡ Some v → v ≡ at.published
shown_is room at desk (step.Send on change) v sound shown = by_answer (answer_to_send room at) shown
  where
    by_answer : (answer : Answer) → version_for desk (step.Send on change, answer) ≡ Some v → v ≡ at.published
    by_answer answer shown = absurd (cc)
shown_is room at desk step.Take v sound shown = absurd (cc)
shown_is room at desk step.Publish v sound shown = absurd (cc)
shown_is room at desk (step.Tell to) v sound shown = by_desk (to == desk) shown
  where
    by_desk : (same : Bool) → (if same then Some at.published else None) ≡ Some v → v ≡ at.published
    by_desk true is = cc
    by_desk false is = absurd (cc)
shown_is room at desk (step.Look to symbol) v sound shown = by_desk (to == desk) shown ∙ version_len at sound
  where
    by_desk : (same : Bool) → (if same then Some (length (version_at at)) else None) ≡ Some v → v ≡ length (version_at at)
    by_desk true is = cc
    by_desk false is = absurd (cc)

shown_now : (room : Room) (at : Standing) (desk : ℕ) (event : Event) (v : ℕ) → IsSound at → IsAnswered room at event
    → version_for desk event ≡ Some v → v ≡ at.published
shown_now room at desk (asked, answer) v sound (inl is) shown =
    shown_is room at desk asked v sound (ap (λ (a : Answer). version_for desk (asked, a)) (sym is) ∙ shown)
shown_now room at desk (asked, answer) v sound (inr wants) shown =
    absurd (refused asked (ap (λ (a : Answer). version_for desk (asked, a)) (sym wants.answer) ∙ shown))
  where
    refused : (asked : Step) → version_for desk (asked, Err fault.NoMemory) ≡ Some v → ⊥
    refused (step.Send on change) is = cc
    refused step.Take is = cc
    refused step.Publish is = cc
    refused (step.Tell to) is = cc
    refused (step.Look to symbol) is = cc

-- a run without its last event, and how that was answered
front_is_run : (room : Room) (events : List Event) (event : Event) → IsRun room (events ++ event ∷ []) → IsRun room events
front_is_run room events event run place other at =
    let within = slice_get_within events place other at in
    subst (λ (before : List Event). IsAnswered room (standing_after before) other) (take-append-le place events (event ∷ []) (omega arith))
    (run place other (slice_get-front events (event ∷ []) place within ∙ at))

last_is_answered : (room : Room) (events : List Event) (event : Event) → IsRun room (events ++ event ∷ [])
    → IsAnswered room (standing_after events) event
last_is_answered room events event run =
    subst (λ (before : List Event). IsAnswered room (standing_after before) event) (take-append_seam events (event ∷ []))
    (run (length events) event (slice_get-seam events event))

-- what a run keeps: a desk's versions never fall and stay within the published one
record Keeps (desk : ℕ) (events : List Event) : Type 0 where
  sound : IsSound (standing_after events)
  rising : AllPairs (λ earlier later. earlier ≤ later) (versions_of desk events)
  below : All (λ v. v ≤ (standing_after events).published) (versions_of desk events)

keeps_more : (room : Room) (desk : ℕ) (events : List Event) (event : Event) → Keeps desk events
    → IsAnswered room (standing_after events) event → Keeps desk (events ++ event ∷ [])
keeps_more room desk events event kept answered =
    let at = standing_after events in
    let moved = after_event room at event kept.sound answered in
    let next : standing_after (events ++ event ∷ []) ≡ after at event = standing_after-push events event in
    let longer : versions_of desk (events ++ event ∷ []) ≡ versions_of desk events ++ option_to_list (version_for desk event) =
    filter_map-push (version_for desk) events event in
    let still : All (λ v. v ≤ (after at event).published) (versions_of desk events) =
    λ k d within. omega (arith, kept.below k d within, moved.up) in
    let both = by_version (version_for desk event) refl (after at event).published moved.up still in
    record {
      sound = subst IsSound (sym next) moved.sound;
      rising = subst (AllPairs (λ earlier later. earlier ≤ later)) (sym longer) both.0;
      below = subst (λ (at2 : Standing). All (λ v. v ≤ at2.published) (versions_of desk (events ++ event ∷ []))) (sym next)
          (subst (All (λ v. v ≤ (after at event).published)) (sym longer) both.1);
    }
  where
    by_version : (o : Option ℕ) → version_for desk event ≡ o → (top : ℕ) → (standing_after events).published ≤ top
        → All (λ v. v ≤ top) (versions_of desk events)
        → AllPairs (λ earlier later. earlier ≤ later) (versions_of desk events ++ option_to_list o)
        × All (λ v. v ≤ top) (versions_of desk events ++ option_to_list o)
    by_version None is top up still = (
      subst (AllPairs (λ earlier later. earlier ≤ later)) (sym (append-nil (versions_of desk events))) kept.rising,
      subst (All (λ v. v ≤ top)) (sym (append-nil (versions_of desk events))) still,
    )
    by_version (Some v) is top up still =
        let now : v ≡ (standing_after events).published = shown_now room (standing_after events) desk event v kept.sound answered is in (
          all_pairs_push (λ earlier later. earlier ≤ later) (versions_of desk events) v kept.rising
              (λ k d within. omega (arith, kept.below k d within, now)),
          All-push (λ w. w ≤ top) (versions_of desk events) v still (omega (arith, now, up)),
        )

pub versions_rise : (room : Room) (events : List Event) (desk : ℕ) → IsRun room events
    → AllPairs (λ earlier later. earlier ≤ later) (versions_of desk events)
versions_rise room events desk run = (keeps events run).rising
  where
    keeps : (events : List Event) → IsRun room events → Keeps desk events
    keeps events = by_last (λ (events : List Event). IsRun room events → Keeps desk events)
        (λ run. record {
          sound = record { published = omega arith; taken = omega arith };
          rising = λ i j d lt below. absurd (omega arith);
          below = All-nil (λ v. v ≤ 0);
        })
        (λ events event kept run. keeps_more room desk events event (kept (front_is_run room events event run))
        (last_is_answered room events event run)) events
