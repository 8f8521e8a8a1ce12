-- Taking all at once has the same result as takings one after another.
use Rattle.std.proofs.Common.{ℕ, zero, suc, ◌≡◌, ◌≢◌, ◌+◌, ◌≤◌, true, List, [], ◌∷◌, ◌++◌, length, Ok, Err, refl, ap, subst, sym, arith}
use Rattle.std.proofs.Common.{append_assoc}
use Rattle.std.specs.Prelude.{All}
use Rattle.std.proofs.lemmas.List.{append-nil}
use Rattle.std.proofs.lemmas.List.Elements.{All-nil, All-push}
use Rattle.nms_quote.specs.declared.marked.Marked.{Marked}
use Rattle.nms_flow.specs.Flow.{State, IsAfter, WentOn}
use Rattle.nms_flow.specs.Run.{Event, took}
use Rattle.nms_flow.specs.Takes.{TakesUntil}
use Rattle.nms_flow.specs.declared.step.Step.TheVariants as step
use Rattle.nms_flow.specs.declared.reply.Reply.{Reply}
use Rattle.nms_flow.specs.declared.reply.Reply.TheVariants as reply
use Rattle.nms_flow.specs.declared.step_fault.StepFault.{StepFault}
use Rattle.nms_flow.specs.declared.step_fault.StepFault.TheVariants as fault
use Rattle.nms_flow.proofs.RunLemmas.{goes_on}
use Rattle.nms_flow.proofs.StepLemmas.{went_empty, went_full, went_taken, went_wanting}

-- the machine went on by some takes
abbrev TakesSome : State → State → Type 0
TakesSome old new = (before : List Event) → IsAfter old before
    → (takes : List Event) × All (λ event. took event ≡ true) takes × IsAfter new (before ++ takes)

-- n more are taken
abbrev with_more : State → ℕ → State
with_more state count = record state { pending = state.pending + count }

-- none was taken
takes_none : (state : State) → TakesSome state state
takes_none state before h = ([], All-nil (λ (e : Event). took e ≡ true), subst (IsAfter state) (sym (append-nil before)) h)

-- one more was taken
takes_more : (old now new : State) (r : Reply) → TakesSome old now → WentOn now new (step.Take, Ok r) → TakesSome old new
takes_more old now new r some went before h =
    let so_far = some before h in
    let event : Event = (step.Take, Ok r) in (
      so_far.0 ++ event ∷ [],
      All-push (λ (e : Event). took e ≡ true) so_far.0 event so_far.1 refl,
      subst (IsAfter new) (append_assoc before so_far.0 (event ∷ [])) (goes_on now new (before ++ so_far.0) event went so_far.2),
    )

-- n takings succeed if n changes are queued and the tape has room for them
takes_some : (old : State) (count : ℕ) → old.pending + count ≤ length old.changes → old.board.applied + old.pending + count ≤ old.most_taken
    → TakesSome old (with_more old count)
takes_some old zero queued room = subst (TakesSome old) (ap (λ (p : ℕ). record old { pending = p }) (omega arith)) (takes_none old)
takes_some old (suc count) queued room =
    let now : State = with_more old count in
    takes_more old now (with_more old (suc count)) (reply.Taken (now.board.applied + now.pending + 1))
    (takes_some old count (omega (arith, queued)) (omega (arith, room)))
    (went_taken now (with_more old (suc count)) (λ e. absurd (omega (arith, e, queued))) (omega (arith, queued))
    (λ e. absurd (omega (arith, e, room))) (ap (λ (p : ℕ). record old { pending = p }) (omega arith)))

-- a taking was refused after them
takes_until : (old new : State) (why : StepFault) → TakesSome old new → WentOn new new (step.Take, Err why) → TakesUntil why old new
takes_until old new why some went before h =
    let so_far = some before h in
    (so_far.0, so_far.1, goes_on new new (before ++ so_far.0) (step.Take, Err why) went so_far.2)

-- all of the queue was taken
pub takes_until_empty : (old : State) (count : ℕ) (kept : List Marked) → kept ≡ old.changes → old.pending + count ≡ length old.changes
    → old.board.applied + old.pending + count ≤ old.most_taken
    → TakesUntil fault.QueueEmpty old (record old { changes = kept; pending = old.pending + count })
takes_until_empty old count kept same whole room = rw same (takes_until old (with_more old count) fault.QueueEmpty
    (takes_some old count (omega (arith, whole)) room) (went_empty (with_more old count) whole))

-- the tape was filled, and something is queued
pub takes_until_full : (old : State) (count : ℕ) (kept : List Marked) → kept ≡ old.changes → old.pending + count ≤ length old.changes
    → old.pending + count ≢ length old.changes
    → old.board.applied + old.pending + count ≡ old.most_taken
    → TakesUntil fault.TapeFull old (record old { changes = kept; pending = old.pending + count })
takes_until_full old count kept same queued some full = rw same (takes_until old (with_more old count) fault.TapeFull
    (takes_some old count queued (omega (arith, full))) (went_full (with_more old count) some (omega (arith, full))))

-- the first taking ran out of memory
pub takes_until_wanting : (old : State) (kept : List Marked) → kept ≡ old.changes → old.pending ≢ length old.changes
    → old.board.applied + old.pending ≢ old.most_taken
    → TakesUntil fault.NoMemory old (record old { changes = kept })
takes_until_wanting old kept same some room =
    rw same (takes_until old old fault.NoMemory (takes_none old) (went_wanting old some room))
