-- How one more event moves what a run has sent, taken and published.
use Rattle.std.proofs.Common.{ℕ, ◌≡◌, ◌+◌, ◌<◌, cond, false, List, [], ◌∷◌, ◌++◌, length, take, Option, Some, None, sym, refl, ap, subst}
use Rattle.std.proofs.Common.{◌∙◌, arith, length-append, inl, inr}
use Rattle.std.specs.Prelude.{unwrap_or, slice_get, option_to_list}
use Rattle.std.specs.List.{cons_option, filter_map, last_or}
use Rattle.std.proofs.lemmas.List.{append-nil, take-append-le}
use Rattle.std.proofs.lemmas.List.Sums.{sum_by-append}
use Rattle.std.proofs.lemmas.List.Elements.{filter_map-append}
use Rattle.std.proofs.lemmas.Option.{slice_get_within}
use Rattle.std.proofs.lemmas.Bool.{cases_lt}
use Rattle.std.proofs.Math.Seq.{take-append_seam}
use Rattle.nms_flow.specs.Flow.{IsAfter, State, StandsAt, WentOn, room_of}
use Rattle.nms_flow.specs.Run.{Room, Event, IsAnswered, IsRun, Standing, after, sent_in, standing_after, taken_by, took, published_by}
use Rattle.nms_flow.specs.Run.{version_published}
use Rattle.nms_flow.proofs.ListFacts.{last_or-append, slice_get-front, slice_get-seam}

-- one more element of a list that is filtered
pub filter_map-push : {X Y : Type 0} (f : X → Option Y) (xs : List X) (x : X)
    → filter_map f (xs ++ x ∷ []) ≡ filter_map f xs ++ option_to_list (f x)
filter_map-push f xs x = filter_map-append f xs (x ∷ []) ∙ ap (λ more. filter_map f xs ++ more) (of_one (f x))
  where
    of_one : {Y : Type 0} (o : Option Y) → cons_option o [] ≡ option_to_list o
    of_one None = refl
    of_one (Some y) = refl

taken_by-push : (events : List Event) (event : Event) → taken_by (events ++ event ∷ []) ≡ taken_by events + cond (took event) 1 0
taken_by-push events event = sum_by-append (λ (e : Event). cond (took e) 1 0) events (event ∷ [])
    ∙ ap (λ n. taken_by events + n) (of_one (cond (took event) 1 0))
  where
    of_one : (n : ℕ) → 0 + n ≡ n
    of_one n = omega arith

-- the version of the last publishing, if one more answer may publish
published_by-push : (events : List Event) (event : Event) → published_by (events ++ event ∷ [])
    ≡ unwrap_or (version_published event.1) (published_by events)
published_by-push events event =
    let published : Event → Option ℕ = λ e. version_published e.1 in
    ap (λ o. unwrap_or o 0) (ap (last_or None) (filter_map-append published events (event ∷ []))
    ∙ last_or-append None (filter_map published events) (filter_map published (event ∷ [])))
    ∙ chosen (last_or None (filter_map published events)) (version_published event.1)
  where
    chosen : (o next : Option ℕ) → unwrap_or (last_or o (cons_option next [])) 0 ≡ unwrap_or next (unwrap_or o 0)
    chosen o None = refl
    chosen o (Some n) = refl

-- what is counted with one more event
pub standing_after-push : (events : List Event) (event : Event)
    → standing_after (events ++ event ∷ []) ≡ after (standing_after events) event
standing_after-push events event = rw (
  filter_map-push sent_in events event,
  taken_by-push events event,
  published_by-push events event,
) refl

-- an event that sends, takes and publishes nothing leaves what is counted
pub after_nothing : (at : Standing) (event : Event) → sent_in event ≡ None → took event ≡ false → version_published event.1 ≡ None
    → after at event ≡ at
after_nothing at event unsent untaken unpublished = rw (unsent, untaken, unpublished) (counted (append-nil at.sent) (omega arith))
  where
    counted : {sent : List Rattle.nms_quote.specs.declared.marked.Marked.Marked} {taken : ℕ} → sent ≡ at.sent → taken ≡ at.taken
        → (let it : Standing = record { sent = sent; taken = taken; published = at.published } in it) ≡ at
    counted same_sent same_taken = rw (same_sent, same_taken) refl

-- a run goes on by an event that is answered as the machine does
pub is_run-push : (room : Room) (events : List Event) (event : Event) → IsRun room events → IsAnswered room (standing_after events) event
    → IsRun room (events ++ event ∷ [])
is_run-push room events event run answer place other at = elim (cases_lt place (length events)) [
  | inl before ↦
      let e : take place (events ++ event ∷ []) ≡ take place events = take-append-le place events (event ∷ []) (omega arith) in
      rw e (run place other (sym (slice_get-front events (event ∷ []) place before) ∙ at))
  | inr past ↦
      let within : place < length events + 1 =
      omega (arith, slice_get_within (events ++ event ∷ []) place other at, length-append events (event ∷ [])) in
      let last : place ≡ length events = omega arith in
      let same : event ≡ other = some_is (sym (slice_get-seam events event) ∙ ap (slice_get (events ++ event ∷ [])) (sym last) ∙ at) in
      let e : take place (events ++ event ∷ []) ≡ events = ap (λ n. take n (events ++ event ∷ [])) last
      ∙ take-append_seam events (event ∷ []) in
      rw e (subst (IsAnswered room (standing_after events)) same answer)
]
  where
    some_is : {X : Type 0} {x y : X} → Some x ≡ Some y → x ≡ y
    some_is h = cc

-- the machine is at the point that one event more has led to
pub goes_on : (old new : State) (before : List Event) (event : Event) → WentOn old new event → IsAfter old before
    → IsAfter new (before ++ event ∷ [])
goes_on old new before event went h = record {
  run = subst (λ (room : Room). IsRun room (before ++ event ∷ [])) (sym went.room)
      (is_run-push (room_of old) before event h.run (went.answered (standing_after before) h.stands));
  stands = subst (StandsAt new) (sym (standing_after-push before event)) (went.stands (standing_after before) h.stands);
}
