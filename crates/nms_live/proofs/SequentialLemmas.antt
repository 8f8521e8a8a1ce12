-- A run of the sequential machine, made of a live run: level by level of the tape its publishings, then the looks of
-- the answers made on it, then the next change.
use Rattle.std.proofs.Common.{ℕ, ◌≡◌, ◌+◌, ◌-◌, ◌<◌, ◌≤◌, Bool, true, false, cond, inl, inr, List, [], ◌∷◌, ◌++◌, length, map, Some, None}
use Rattle.std.proofs.Common.{Ok, refl, sym, ap, subst, ◌∙◌, arith, append_assoc, length-append, if◌then◌else◌, ◌==◌}
use Rattle.std.specs.Prelude.{All, option_to_list, unwrap_or}
use Rattle.std.specs.List.{AllByRecursion, last_or}
use Rattle.std.proofs.lemmas.Bool.{ne_eqb}
use Rattle.std.proofs.lemmas.Bool.Decides.{eqb_tells}
use Rattle.std.proofs.lemmas.List.{append-nil, length-drop, map-append}
use Rattle.std.proofs.lemmas.List.Elements.{All-nil, All-push, filter-append}
use Rattle.std.proofs.Math.ListN.{length-map}
use Rattle.nms_quote.specs.Roster.{Listing}
use Rattle.nms_quote.specs.Tape.{Tape}
use Rattle.nms_quote.specs.declared.change.Change.{Change}
use Rattle.nms_quote.specs.declared.marked.Marked.{Marked}
use Rattle.nms_board.specs.View.{Seen, view_of}
use Rattle.nms_flow.specs.Laws.{version_for, versions_of}
use Rattle.nms_flow.specs.Run.{Event, IsAnswered, IsRun, Room, Standing, after, answer_to, answer_to_send, answer_to_take, changes_in}
use Rattle.nms_flow.specs.Run.{is_answered, queue_at, standing_after, version_at, version_published}
use Rattle.nms_flow.specs.declared.step.Step.TheVariants as step
use Rattle.nms_flow.specs.declared.reply.Reply.TheVariants as reply
use Rattle.nms_flow.proofs.Offered.{last_or-append, filter_map-push, is_run-push, standing_after-push}
use Rattle.nms_live.specs.Answering.{of_desk, versions}
use Rattle.nms_live.specs.RunOf.{looks_of, publishings, shown_to}
use Rattle.nms_quote.specs.declared.answer.Answer.{Answer}
use Rattle.nms_live.proofs.FeedLemmas.{marked_by}
use Rattle.nms_live.proofs.LevelLemmas.{itself, on}

-- the version that an answer was made on
abbrev pub level_of : Answer → ℕ
level_of answer = answer.plan.version

-- the point that a run has led to if it took all that it sent, and published last the last of these lengths
abbrev pub standing_at : Listing → Tape → List ℕ → Standing
standing_at roster tape lengths = record {
  sent = map (marked_by roster) tape;
  taken = length tape;
  published =
      unwrap_or (last_or None lengths) 0;
}

same_standing : (one other : Standing) → one.sent ≡ other.sent → one.taken ≡ other.taken → one.published ≡ other.published → one ≡ other
same_standing one other same_sent same_taken same_published = rw (same_sent, same_taken, same_published) refl

-- a run that was refused nothing, with its result
pub record IsLed (room : Room) (basis : Answer → Seen) (at : Standing) (lengths : List ℕ) (looked : List Answer) (events : List Event) :
    Type 0 where
  pub run : IsRun room events
  pub answered : All (λ (event : Event). is_answered event.1 ≡ true) events
  pub stands : standing_after events ≡ at
  pub published : publishings events ≡ lengths
  pub looks : (desk : ℕ) → looks_of desk events ≡ map basis (of_desk desk looked)
  pub told : (desk : ℕ) → versions_of desk events ≡ versions (of_desk desk looked)

abbrev pub Led : Room → (Answer → Seen) → Standing → List ℕ → List Answer → Type 0
Led room basis at lengths looked = (events : List Event) × IsLed room basis at lengths looked events

pub none_led : (room : Room) (roster : Listing) (basis : Answer → Seen) → Led room basis (standing_at roster [] []) [] []
none_led room roster basis = (
  [],
  record {
    run = λ place event at. absurd (cc);
    answered = All-nil (λ (event : Event). is_answered event.1 ≡ true);
    stands = refl;
    published = refl;
    looks = λ desk. refl;
    told = λ desk. refl;
  },
)

module _ (room : Room) (roster : Listing) (basis : Answer → Seen) where
  one_more : (at next : Standing) (lengths lengths' : List ℕ) (looked looked' : List Answer) (event : Event)
      → event.1 ≡ answer_to room at event.0 → is_answered event.1 ≡ true → after at event ≡ next
      → lengths ++ option_to_list (version_published event.1) ≡ lengths'
      → ((desk : ℕ) → map basis (of_desk desk looked) ++ option_to_list (shown_to desk event) ≡ map basis (of_desk desk looked'))
      → ((desk : ℕ) → versions (of_desk desk looked) ++ option_to_list (version_for desk event) ≡ versions (of_desk desk looked'))
      → Led room basis at lengths looked → Led room basis next lengths' looked'
  one_more at next lengths lengths' looked looked' event is ok goes publishes shows tells (events, led) = (
    events ++ event ∷ [],
    record {
      run = is_run-push room events event led.run (subst (λ (s : Standing). IsAnswered room s event) (sym led.stands) (inl is));
      answered = All-push (λ (e : Event). is_answered e.1 ≡ true) events event led.answered ok;
      stands = standing_after-push events event ∙ ap (λ (s : Standing). after s event) led.stands ∙ goes;
      published = filter_map-push (λ (e : Event). version_published e.1) events event
          ∙ ap (λ ls. ls ++ option_to_list (version_published event.1)) led.published ∙ publishes;
      looks = λ desk. filter_map-push (shown_to desk) events event ∙ ap (λ ss. ss ++ option_to_list (shown_to desk event)) (led.looks desk)
          ∙ shows desk;
      told = λ desk. filter_map-push (version_for desk) events event
          ∙ ap (λ vs. vs ++ option_to_list (version_for desk event)) (led.told desk) ∙ tells desk;
    },
  )

  sent_ok : (at : Standing) → length (queue_at at) < room.queue → answer_to_send room at ≡ Ok reply.Sent
  sent_ok at left = rw (ne_eqb (length (queue_at at)) room.queue (λ e. omega (arith, e, left))) refl

  taken_ok : (at : Standing) → 0 < length (queue_at at) → at.taken < room.tape → answer_to_take room at ≡ Ok (reply.Taken (at.taken + 1))
  taken_ok at some left = rw (
    ne_eqb (length (queue_at at)) 0 (λ e. omega (arith, e, some)),
    ne_eqb at.taken room.tape (λ e. omega (arith, e, left)),
  ) refl

  -- how many are queued, of n sent
  queued : (at : Standing) → length (queue_at at) ≡ length at.sent - at.taken
  queued at = length-drop at.taken (changes_in at.sent) ∙ ap (λ n. n - at.taken) (length-map at.sent (λ (m : Marked). m.change))

  -- the next change is sent and taken
  pub take_in : (tape : Tape) (lengths : List ℕ) (looked : List Answer) (change : Change) → 1 ≤ room.queue → length tape < room.tape
      → Led room basis (standing_at roster tape lengths) lengths looked
      → Led room basis (standing_at roster (tape ++ change ∷ []) lengths) lengths looked
  take_in tape lengths looked change queue limit led =
      let marked : Marked = marked_by roster change in
      let before : Standing = standing_at roster tape lengths in
      let between : Standing = record { sent = before.sent ++ marked ∷ []; taken = length tape; published = before.published } in
      let many : length before.sent ≡ length tape = length-map tape (marked_by roster) in
      let more : length between.sent ≡ length before.sent + 1 = length-append before.sent (marked ∷ []) in
      let none : length (queue_at before) < room.queue = omega (arith, queued before, many, queue) in
      let one : 0 < length (queue_at between) = omega (arith, queued between, many, more) in
      one_more between (standing_at roster (tape ++ change ∷ []) lengths) lengths lengths looked looked
      (step.Take, Ok (reply.Taken (length tape + 1)))
      (sym (taken_ok between one limit)) refl
      (same_standing _ _ (append-nil between.sent ∙ sym (map-append (marked_by roster) tape (change ∷ [])))
      (sym (length-append tape (change ∷ []))) refl)
      (append-nil lengths) (λ desk. append-nil (map basis (of_desk desk looked))) (λ desk. append-nil (versions (of_desk desk looked)))
      (one_more before between lengths lengths looked looked (step.Send marked.feed change, Ok reply.Sent)
      (sym (sent_ok before none)) refl
      (same_standing _ _ refl (omega arith) refl)
      (append-nil lengths) (λ desk. append-nil (map basis (of_desk desk looked))) (λ desk. append-nil (versions (of_desk desk looked))) led)

  -- all of the tape is published
  publish : (tape : Tape) (lengths : List ℕ) (looked : List Answer)
      → Led room basis (standing_at roster tape lengths) lengths looked
      → Led room basis (standing_at roster tape (lengths ++ length tape ∷ [])) (lengths ++ length tape ∷ []) looked
  publish tape lengths looked led =
      one_more (standing_at roster tape lengths) (standing_at roster tape (lengths ++ length tape ∷ [])) lengths
      (lengths ++ length tape ∷ []) looked looked (step.Publish, Ok (reply.Published (length tape)))
      refl refl
      (same_standing _ _ (append-nil (map (marked_by roster) tape)) (omega arith)
      (ap (λ o. unwrap_or o 0) (sym (last_or-append None lengths (length tape ∷ [])))))
      refl (λ desk. append-nil (map basis (of_desk desk looked))) (λ desk. append-nil (versions (of_desk desk looked))) led

  -- a look shows what the answer was made on, in the answer's version
  abbrev pub IsShown : Tape → List ℕ → Answer → Type 0
  IsShown tape lengths answer = (basis answer ≡ view_of room.sizes (version_at (standing_at roster tape lengths)) answer.plan.order.sym)
      × ((basis answer).version ≡ level_of answer)

  -- a desk looks at what an answer was made on
  look : (tape : Tape) (lengths : List ℕ) (looked : List Answer) (answer : Answer)
      → IsShown tape lengths answer
      → Led room basis (standing_at roster tape lengths) lengths looked
      → Led room basis (standing_at roster tape lengths) lengths (looked ++ answer ∷ [])
  look tape lengths looked answer is led =
      one_more (standing_at roster tape lengths) (standing_at roster tape lengths) lengths lengths looked (looked ++ answer ∷ [])
      (step.Look answer.desk answer.plan.order.sym, Ok (reply.Seen (basis answer)))
      (ap (λ seen. Ok (reply.Seen seen)) is.0) refl
      (same_standing _ _ (append-nil (map (marked_by roster) tape)) (omega arith) refl)
      (append-nil lengths)
      (λ desk. ap (λ ss. map basis (of_desk desk looked) ++ ss) (by_desk basis (answer.desk == desk)) ∙ added basis desk)
      (λ desk. ap (λ vs. versions (of_desk desk looked) ++ vs)
      (ap (λ v. option_to_list (if answer.desk == desk then Some v else None)) is.1 ∙ by_desk level_of (answer.desk == desk))
      ∙ added level_of desk)
      led
    where
      by_desk : {Y : Type 0} (f : Answer → Y) (same : Bool) → option_to_list (if same then Some (f answer) else None)
          ≡ map f (cond same (answer ∷ []) [])
      by_desk f true = refl
      by_desk f false = refl

      added : {Y : Type 0} (f : Answer → Y) (desk : ℕ) → map f (of_desk desk looked) ++ map f (cond (answer.desk == desk) (answer ∷ []) [])
          ≡ map f (of_desk desk (looked ++ answer ∷ []))
      added f desk = sym (ap (map f) (filter-append (λ (a : Answer). a.desk == desk) looked (answer ∷ []))
          ∙ map-append f (of_desk desk looked) (cond (answer.desk == desk) (answer ∷ []) []))

  -- every publishing of the complete tape, of these
  pub publish_all : (tape : Tape) (looked : List Answer) (ns lengths : List ℕ)
      → Led room basis (standing_at roster tape lengths) lengths looked
      → Led room basis (standing_at roster tape (lengths ++ on itself (length tape) ns)) (lengths ++ on itself (length tape) ns) looked
  publish_all tape looked [] lengths led =
      subst (λ (ls : List ℕ). Led room basis (standing_at roster tape ls) ls looked) (sym (append-nil lengths)) led
  publish_all tape looked (n ∷ ns) lengths led = elim (eqb_tells n (length tape)) [
    | inl same ↦
        let later : List ℕ = on itself (length tape) ns in
        let e : (lengths ++ length tape ∷ []) ++ later ≡ lengths ++ n ∷ later = append_assoc lengths (length tape ∷ []) later
        ∙ ap (λ m. lengths ++ m ∷ later) (sym same.1) in
        rw same.0 (subst (λ (ls : List ℕ). Led room basis (standing_at roster tape ls) ls looked) e
        (publish_all tape looked ns (lengths ++ length tape ∷ []) (publish tape lengths looked led)))
    | inr other ↦ rw other.0 (publish_all tape looked ns lengths led)
  ]

  -- every look at an answer made on the level, of these
  pub look_all : (tape : Tape) (lengths : List ℕ) (level : ℕ) (answers looked : List Answer)
      → AllByRecursion (λ (a : Answer). level_of a ≡ level → IsShown tape lengths a) answers
      → Led room basis (standing_at roster tape lengths) lengths looked
      → Led room basis (standing_at roster tape lengths) lengths (looked ++ on level_of level answers)
  look_all tape lengths level [] looked shown led =
      subst (Led room basis (standing_at roster tape lengths) lengths) (sym (append-nil looked)) led
  look_all tape lengths level (answer ∷ answers) looked shown led = elim (eqb_tells (level_of answer) level) [
    | inl same ↦
        rw same.0 (subst (Led room basis (standing_at roster tape lengths) lengths)
        (append_assoc looked (answer ∷ []) (on level_of level answers))
        (look_all tape lengths level answers (looked ++ answer ∷ []) shown.1 (look tape lengths looked answer (shown.0 same.1) led)))
    | inr other ↦ rw other.0 (look_all tape lengths level answers looked shown.1 led)
  ]
