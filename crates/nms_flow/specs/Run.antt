-- The machine that consolidates. Its answer to a step follows from the steps before: there is no queue and no board
-- here. This product's own rule.
use Rattle.std.specs.Prelude.{ℕ, ◌≡◌, ◌+◌, ◌==◌, ◌⊎◌, Bool, true, false, IsOk, List, ◌++◌, length, map, option_to_list, take, drop}
use Rattle.std.specs.Prelude.{slice_get, count_by, unwrap_or, Option, Some, None, Result, Ok, Err, if◌then◌else◌}
use Rattle.std.specs.List.{filter_map, last_or}
use Rattle.nms_quote.specs.Roster.{Sizes}
use Rattle.nms_quote.specs.Tape.{Tape, version}
use Rattle.nms_quote.specs.declared.change.Change.{Change}
use Rattle.nms_quote.specs.declared.marked.Marked.{Marked}
use Rattle.nms_board.specs.View.{view_of}
use Rattle.nms_flow.specs.declared.step.Step.{Step}
use Rattle.nms_flow.specs.declared.step.Step.TheVariants as step
use Rattle.nms_flow.specs.declared.reply.Reply.{Reply}
use Rattle.nms_flow.specs.declared.reply.Reply.TheVariants as reply
use Rattle.nms_flow.specs.declared.step_fault.StepFault.{StepFault}
use Rattle.nms_flow.specs.declared.step_fault.StepFault.TheVariants as fault

-- the roster's sizes, how many changes the queue holds, and how many the tape
pub record Room : Type 0 where
  pub sizes : Sizes
  pub queue : ℕ
  pub tape : ℕ

abbrev pub Answer : Type 0
Answer = Result Reply StepFault

-- an answer whose reply is made of a value
abbrev pub replied : {X : Type 0} → (X → Reply) → Result X StepFault → Answer
replied reply_of (Ok value) = Ok (reply_of value)
replied reply_of (Err fault) = Err fault

-- a step with its answer
abbrev pub Event : Type 0
Event = Step × Answer

-- the change of a step that sends one, with the mark of its feed
abbrev pub marked_in : Step → Option Marked
marked_in (step.Send feed change) = Some (record { feed = feed; change = change })
marked_in step.Take = None
marked_in step.Publish = None
marked_in (step.Tell desk) = None
marked_in (step.Look desk sym) = None

abbrev pub is_take : Step → Bool
is_take (step.Send feed change) = false
is_take step.Take = true
is_take step.Publish = false
is_take (step.Tell desk) = false
is_take (step.Look desk sym) = false

-- the version that a publishing answers
abbrev pub version_published : Answer → Option ℕ
version_published (Ok reply.Sent) = None
version_published (Ok (reply.Taken version)) = None
version_published (Ok (reply.Published version)) = Some version
version_published (Ok (reply.Told desk version)) = None
version_published (Ok (reply.Seen view)) = None
version_published (Err fault) = None

abbrev pub is_answered : Answer → Bool
is_answered (Ok r) = true
is_answered (Err e) = false

-- the change that an event sent
abbrev pub sent_in : Event → Option Marked
sent_in event = if is_answered event.1 then marked_in event.0 else None

-- whether an event took a change
abbrev pub took : Event → Bool
took event = if is_answered event.1 then is_take event.0 else false

-- the changes that were sent, each marked with its feed
abbrev pub sent_by : List Event → List Marked
sent_by events = filter_map sent_in events

-- how many of them were taken
abbrev pub taken_by : List Event → ℕ
taken_by events = count_by took events

-- the version of the last publishing, and 0 before any
abbrev pub published_by : List Event → ℕ
published_by events = unwrap_or (last_or None (filter_map (λ event. version_published event.1) events)) 0

-- the point that the steps so far have led to: what was sent, how many of that were taken, and the published version
pub record Standing : Type 0 where
  pub sent : List Marked
  pub taken : ℕ
  pub published : ℕ

abbrev pub standing_after : List Event → Standing
standing_after events = record { sent = sent_by events; taken = taken_by events; published = published_by events }

abbrev pub changes_in : List Marked → List Change
changes_in marked = map (λ m. m.change) marked

-- the tape: the changes taken
abbrev pub tape_at : Standing → Tape
tape_at at = take at.taken (changes_in at.sent)

-- the queue: those sent and not taken
abbrev pub queue_at : Standing → List Change
queue_at at = drop at.taken (changes_in at.sent)

-- the published version of the tape
abbrev pub version_at : Standing → Tape
version_at at = version at.published (tape_at at)

abbrev pub answer_to_send : Room → Standing → Answer
answer_to_send room at = if length (queue_at at) == room.queue then Err fault.QueueFull else Ok reply.Sent

abbrev pub answer_to_take : Room → Standing → Answer
answer_to_take room at =
    if length (queue_at at) == 0 then Err fault.QueueEmpty
    else (if at.taken == room.tape then Err fault.TapeFull else Ok (reply.Taken (at.taken + 1)))

-- the machine's answer to a step
abbrev pub answer_to : Room → Standing → Step → Answer
answer_to room at (step.Send feed change) = answer_to_send room at
answer_to room at step.Take = answer_to_take room at
answer_to room at step.Publish = Ok (reply.Published at.taken)
answer_to room at (step.Tell desk) = Ok (reply.Told desk at.published)
answer_to room at (step.Look desk sym) = Ok (reply.Seen (view_of room.sizes (version_at at) sym))

-- a taking that would have succeeded ran out of memory
pub record WantsMemory (room : Room) (at : Standing) (event : Event) : Type 0 where
  pub takes : event.0 ≡ step.Take
  pub would : IsOk (answer_to_take room at)
  pub answer : event.1 ≡ Err fault.NoMemory

-- the machine's answer to a step, or out of memory at a taking
abbrev pub IsAnswered : Room → Standing → Event → Type 0
IsAnswered room at event = (event.1 ≡ answer_to room at event.0) ⊎ WantsMemory room at event

-- each answer is the machine's to the steps before it
abbrev pub IsRun : Room → List Event → Type 0
IsRun room events = (place : ℕ) (event : Event) → slice_get events place ≡ Some event
    → IsAnswered room (standing_after (take place events)) event

-- what is counted with one more event
abbrev pub after : Standing → Event → Standing
after at event = record {
  sent = at.sent ++ option_to_list (sent_in event);
  taken = at.taken + (if took event then 1 else 0);
  published = unwrap_or (version_published event.1) at.published;
}
