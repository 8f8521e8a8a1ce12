-- How each step moves what a machine keeps.
use Rattle.std.proofs.Common.{ℕ, ◌≡◌, ◌≢◌, ◌+◌, ◌-◌, ◌≤◌, eqb, eq-eqb, ne_eqb, true, false, IsOk, List, [], ◌∷◌, ◌++◌, length, take, drop}
use Rattle.std.proofs.Common.{None, Ok, Err, sym, refl, ap, subst, ◌∙◌, arith, length-append, inl, inr}
use Rattle.std.proofs.Common.{zero, suc, slice_get}
use Rattle.std.specs.Prelude.{option_map}
use Rattle.std.proofs.Math.ListN.{length-map}
use Rattle.std.proofs.lemmas.Option.{slice_get-map}
use Rattle.std.proofs.lemmas.List.{append-nil, take-append-le, drop-append-le, length-take-le, length-drop, take-append-drop, map-append}
use Rattle.std.proofs.lemmas.List.{drop-map, take-map}
use Rattle.std.proofs.Math.Seq.{drop-append-add, take-add}
use Rattle.nms_quote.specs.Tape.{Tape}
use Rattle.nms_quote.specs.declared.change.Change.{Change}
use Rattle.nms_quote.specs.declared.feed.Feed.{Feed}
use Rattle.nms_quote.specs.declared.marked.Marked.{Marked}
use Rattle.nms_board.specs.Cells.{StandsFor}
use Rattle.nms_board.specs.View.{Seen, view_of}
use Rattle.nms_flow.specs.Flow.{State, StandsAt, WentOn, room_of}
use Rattle.nms_flow.specs.Run.{Answer, Event, IsAnswered, Standing, answer_to_take, changes_in, queue_at, sent_in, tape_at, took}
use Rattle.nms_flow.specs.Run.{version_at, version_published}
use Rattle.nms_flow.specs.declared.step.Step.TheVariants as step
use Rattle.nms_flow.specs.declared.reply.Reply.TheVariants as reply
use Rattle.nms_flow.specs.declared.step_fault.StepFault.TheVariants as fault
use Rattle.nms_flow.proofs.RunLemmas.{after_nothing}

-- a version of the tape is one of all that was sent
first_taken : (cs : List Change) (p t : ℕ) → p ≤ t → t ≤ length cs → take p (take t cs) ≡ take p cs
first_taken cs p t le within =
    let split : take t cs ++ drop t cs ≡ cs = take-append-drop t cs in
    sym (take-append-le p (take t cs) (drop t cs) (omega (arith, length-take-le t cs within))) ∙ ap (take p) split

sent_len : (sent : List Marked) → length (changes_in sent) ≡ length sent
sent_len sent = length-map sent (λ (m : Marked). m.change)

-- at each point, the changes kept are those taken since the publishing and the queue
record Reading (state : State) (at : Standing) : Type 0 where
  changes : length state.changes + at.published ≡ length at.sent
  queue : length (queue_at at) + state.pending ≡ length state.changes
  published : at.published ≤ at.taken
  version : version_at at ≡ take at.published (changes_in at.sent)
  applied : state.board.applied ≡ at.published

reads : (state : State) (at : Standing) → StandsAt state at → Reading state at
reads state at h =
    let all = sent_len at.sent in
    let le : at.published ≤ at.taken = omega (arith, h.pending) in
    let version : version_at at ≡ take at.published (changes_in at.sent) =
    first_taken (changes_in at.sent) at.published at.taken le (omega (arith, h.taken, all)) in
    let rest : length state.changes ≡ length at.sent - at.published = ap length h.changes ∙ length-drop at.published at.sent in
    let queue : length (queue_at at) ≡ length (changes_in at.sent) - at.taken = length-drop at.taken (changes_in at.sent) in
    record {
      changes = omega (arith, rest, h.taken, le);
      queue = omega (arith, rest, queue, all, le, h.taken, h.pending);
      published = le;
      version = version;
      applied = h.board.applied ∙ ap length version ∙ length-take-le at.published (changes_in at.sent) (omega (arith, le, h.taken, all));
    }

-- an answer that moves nothing
stays : (state : State) (event : Event) → sent_in event ≡ None → took event ≡ false → version_published event.1 ≡ None
    → ((at : Standing) → StandsAt state at → IsAnswered (room_of state) at event) → WentOn state state event
stays state event unsent untaken unpublished answered = record {
  answered = answered;
  stands = λ at h. subst (StandsAt state) (sym (after_nothing at event unsent untaken unpublished)) h;
  room = refl;
}

pub went_unsent : (state : State) (feed : Feed) (change : Change) → length state.changes - state.pending ≡ state.most_queued
    → state.pending ≤ length state.changes
    → WentOn state state (step.Send feed change, Err fault.QueueFull)
went_unsent state feed change full pending =
    stays state (step.Send feed change, Err fault.QueueFull) refl refl refl
    (λ at h. let test : eqb (length (queue_at at)) state.most_queued ≡ true =
    eq-eqb (length (queue_at at)) state.most_queued (omega (arith, full, pending, (reads state at h).queue)) in
    inl (rw test refl))

pub went_sent : (old new : State) (marked : Marked) → length old.changes - old.pending ≢ old.most_queued
    → new ≡ record old { changes = old.changes ++ marked ∷ [] } → WentOn old new (step.Send marked.feed marked.change, Ok reply.Sent)
went_sent old new marked room moved = subst (λ (s : State). WentOn old s (
  step.Send marked.feed marked.change,
  Ok reply.Sent,
)) (sym moved) (record {
  answered = λ at h.
      let test : eqb (length (queue_at at)) old.most_queued ≡ false =
      ne_eqb (length (queue_at at)) old.most_queued (λ e. room (omega (arith, e, (reads old at h).queue))) in
      inl (rw test refl);
  stands = λ at h.
      let reading = reads old at h in
      let within : at.taken ≤ length (changes_in at.sent) = omega (arith, h.taken, sent_len at.sent) in
      let tape : take at.taken (changes_in (at.sent ++ marked ∷ [])) ≡ tape_at at =
      ap (take at.taken) (map-append (λ (m : Marked). m.change) at.sent (marked ∷ []))
      ∙ take-append-le at.taken (changes_in at.sent) (marked.change ∷ []) within in
      let same : at.taken + 0 ≡ at.taken = omega arith in
      record {
        board = rw (same, tape) h.board;
        changes = ap (λ (ms : List Marked). ms ++ marked ∷ []) h.changes
            ∙ sym (drop-append-le at.published at.sent (marked ∷ []) (omega (arith, reading.published, h.taken)));
        pending = rw same h.pending;
        taken = omega (arith, h.taken, length-append at.sent (marked ∷ []));
      };
  room = refl;
})

pub went_empty : (state : State) → state.pending ≡ length state.changes → WentOn state state (step.Take, Err fault.QueueEmpty)
went_empty state empty =
    stays state (step.Take, Err fault.QueueEmpty) refl refl refl
    (λ at h. let test : eqb (length (queue_at at)) 0 ≡ true =
    eq-eqb (length (queue_at at)) 0 (omega (arith, empty, (reads state at h).queue)) in
    inl (rw test refl))

-- the queue has something
filled : (state : State) (at : Standing) → StandsAt state at → state.pending ≢ length state.changes → eqb (length (queue_at at)) 0 ≡ false
filled state at h some = ne_eqb (length (queue_at at)) 0 (λ e. some (omega (arith, e, (reads state at h).queue)))

-- how many were taken
pub taken_is : (state : State) (at : Standing) → StandsAt state at → state.board.applied + state.pending ≡ at.taken
taken_is state at h = omega (arith, h.pending, (reads state at h).applied)

pub went_full : (state : State) → state.pending ≢ length state.changes → state.board.applied + state.pending ≡ state.most_taken
    → WentOn state state (step.Take, Err fault.TapeFull)
went_full state some full =
    stays state (step.Take, Err fault.TapeFull) refl refl refl
    (λ at h. let test : eqb at.taken state.most_taken ≡ true = eq-eqb at.taken state.most_taken (sym (taken_is state at h) ∙ full) in
    inl (rw (filled state at h some, test) refl))

-- a taking that succeeds if there is memory
takes : (state : State) (at : Standing) → StandsAt state at → state.pending ≢ length state.changes
    → state.board.applied + state.pending ≢ state.most_taken
    → answer_to_take (room_of state) at ≡ Ok (reply.Taken (at.taken + 1))
takes state at h some room =
    let test : eqb at.taken state.most_taken ≡ false = ne_eqb at.taken state.most_taken (λ e. room (taken_is state at h ∙ e)) in
    rw (filled state at h some, test) refl

pub went_wanting : (state : State) → state.pending ≢ length state.changes → state.board.applied + state.pending ≢ state.most_taken
    → WentOn state state (step.Take, Err fault.NoMemory)
went_wanting state some room =
    stays state (step.Take, Err fault.NoMemory) refl refl refl
    (λ at h. inr (record { takes = refl; would = subst (λ (a : Answer). IsOk a) (sym (takes state at h some room)) refl; answer = refl }))

pub went_taken : (old new : State) → old.pending ≢ length old.changes → old.pending ≤ length old.changes
    → old.board.applied + old.pending ≢ old.most_taken
    → new ≡ record old { pending = old.pending + 1 } → WentOn old new (step.Take, Ok (reply.Taken (old.board.applied + old.pending + 1)))
went_taken old new some pending room moved =
    subst (λ (s : State). WentOn old s (step.Take, Ok (reply.Taken (old.board.applied + old.pending + 1)))) (sym moved) (record {
      answered = λ at h. inl (ap (λ (n : ℕ). taken_answer (n + 1)) (taken_is old at h) ∙ sym (takes old at h some room));
      stands = λ at h.
          let reading = reads old at h in
          let all = sent_len at.sent in
          let within : at.taken + 1 ≤ length at.sent = omega (arith, reading.changes, h.pending, some, pending) in
          let tape : take at.published (take (at.taken + 1) (changes_in at.sent)) ≡ version_at at =
          first_taken (changes_in at.sent) at.published (at.taken + 1) (omega (arith, reading.published)) (omega (arith, within, all))
          ∙ sym reading.version in
          let sent : at.sent ++ [] ≡ at.sent = append-nil at.sent in
          record {
            board = rw (sent, tape) h.board;
            changes = rw sent h.changes;
            pending = omega (arith, h.pending);
            taken = rw sent (omega (arith, within));
          };
      room = refl;
    })
  where
    taken_answer : ℕ → Answer
    taken_answer n = Ok (reply.Taken n)

-- the changes taken since the last publishing are on the board now
pub went_published : (old new : State) (version : ℕ) → room_of new ≡ room_of old → old.pending ≤ length old.changes
    → new.changes ≡ drop old.pending old.changes → new.pending ≡ 0
    → ((tape : Tape) → StandsFor old.board tape → StandsFor new.board (tape ++ changes_in (take old.pending old.changes)))
    → version ≡ old.board.applied + old.pending
    → WentOn old new (step.Publish, Ok (reply.Published version))
went_published old new version room pending rest none stands number = record {
  answered = λ at h. inl (ap (λ (n : ℕ). published_answer n) (number ∙ taken_is old at h));
  stands = λ at h.
      let reading = reads old at h in
      let cs = changes_in at.sent in
      let sent : at.sent ++ [] ≡ at.sent = append-nil at.sent in
      let same : at.taken + 0 ≡ at.taken = omega arith in
      let within : at.taken ≤ length cs = omega (arith, h.taken, sent_len at.sent) in
      let taken : changes_in (take old.pending old.changes) ≡ take old.pending (drop at.published cs) =
      sym (take-map (λ (m : Marked). m.change) old.pending old.changes)
      ∙ ap (λ (ms : List Marked). take old.pending (changes_in ms)) h.changes
      ∙ ap (take old.pending) (sym (drop-map (λ (m : Marked). m.change) at.published at.sent)) in
      let front : take at.published cs ++ take old.pending (drop at.published cs) ≡ take at.taken cs =
      sym (take-add at.published old.pending cs) ∙ ap (λ (n : ℕ). take n cs) (omega (arith, h.pending)) in
      let whole : version_at at ++ changes_in (take old.pending old.changes) ≡ take at.taken (tape_at at) =
      ap (λ (t : Tape). t ++ changes_in (take old.pending old.changes)) reading.version
      ∙ ap (λ (q : List Change). take at.published cs ++ q) taken
      ∙ front ∙ sym (first_taken cs at.taken at.taken (omega arith) within) in
      let at_new : version ≡ at.taken = number ∙ taken_is old at h in
      rw (at_new, same, sent) (record {
        board = subst (StandsFor new.board) whole (stands (version_at at) h.board);
        changes = rest ∙ ap (drop old.pending) h.changes ∙ drop_twice at.sent at.published old.pending at.taken h.pending h.taken;
        pending = omega (arith, none);
        taken = h.taken;
      });
  room = room;
}
  where
    published_answer : ℕ → Answer
    published_answer n = Ok (reply.Published n)

    drop_twice : (ms : List Marked) (p k t : ℕ) → k + p ≡ t → t ≤ length ms → drop k (drop p ms) ≡ drop t ms
    drop_twice ms p k t sum within =
        let split : take p ms ++ drop p ms ≡ ms = take-append-drop p ms in
        let long : length (take p ms) ≡ p = length-take-le p ms (omega (arith, sum, within)) in
        sym (ap (λ (n : ℕ). drop n ms) (omega (arith, sum, long)) ∙ ap (drop (length (take p ms) + k)) (sym split)
        ∙ drop-append-add (take p ms) (drop p ms) k)

pub went_told : (state : State) (desk version : ℕ) → version ≡ state.board.applied
    → WentOn state state (step.Tell desk, Ok (reply.Told desk version))
went_told state desk version number =
    stays state (step.Tell desk, Ok (reply.Told desk version)) refl refl refl
    (λ at h. inl (ap (told_answer desk) (number ∙ (reads state at h).applied)))
  where
    told_answer : ℕ → ℕ → Answer
    told_answer desk n = Ok (reply.Told desk n)

pub went_looked : (state : State) (desk sym : ℕ) (seen : Seen)
    → ((tape : Tape) → StandsFor state.board tape → seen ≡ view_of state.board.sizes tape sym)
    → WentOn state state (step.Look desk sym, Ok (reply.Seen seen))
went_looked state desk symbol seen shows =
    stays state (step.Look desk symbol, Ok (reply.Seen seen)) refl refl refl
    (λ at h. inl (ap seen_answer (shows _ h.board)))
  where
    seen_answer : Seen → Answer
    seen_answer s = Ok (reply.Seen s)

-- ---- what was sent since the publishing

drop_at : {X : Type 0} (k : ℕ) (xs : List X) (i j : ℕ) → j ≡ k + i → slice_get (drop k xs) i ≡ slice_get xs j
drop_at zero xs i j is = let same : i ≡ j = omega (arith, is) in ap (slice_get xs) same
drop_at (suc k) [] i j is = refl
drop_at (suc k) (x ∷ xs) i zero is = absurd (omega (arith, is))
drop_at (suc k) (x ∷ xs) i (suc j) is = drop_at k xs i j (omega (arith, is))

-- the change at a place of what the machine keeps is that at its place of all that was sent
pub sent_there : (state : State) (at : Standing) (place since : ℕ) → StandsAt state at → at.published ≤ place
    → since ≡ place - state.board.applied
    → option_map (λ (m : Marked). m.change) (slice_get state.changes since) ≡ slice_get (changes_in at.sent) place
sent_there state at place since h behind is =
    let reading = reads state at h in
    rw (h.changes, drop_at at.published at.sent since place (omega (arith, behind, is, reading.applied)))
    (sym (slice_get-map (λ (m : Marked). m.change) at.sent place))
