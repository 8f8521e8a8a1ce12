-- The runs of the sequential machine that have the result of a live run. This product's own rule.
use Rattle.std.specs.Prelude.{ℕ, ◌≡◌, ◌==◌, ◌++◌, true, All, List, map, Option, Some, None, Ok, if◌then◌else◌}
use Rattle.std.specs.List.{filter_map}
use Rattle.nms_quote.specs.Tape.{version}
use Rattle.nms_quote.specs.declared.feed.Feed.{Feed}
use Rattle.nms_board.specs.View.{Seen}
use Rattle.nms_fees.specs.Settings.{Settings}
use Rattle.nms_flow.specs.Flow.{room_under}
use Rattle.nms_flow.specs.Laws.{IsOnOwnFeed, fed_by, versions_of}
use Rattle.nms_flow.specs.Run.{Event, IsRun, changes_in, is_answered, sent_by, standing_after, tape_at, version_published}
use Rattle.nms_flow.specs.declared.step.Step.TheVariants as step
use Rattle.nms_flow.specs.declared.reply.Reply.TheVariants as reply
use Rattle.nms_live.specs.Answering.{of_desk, seen_in, versions}
use Rattle.nms_live.specs.Reading.{IsRead, text_of}
use Rattle.nms_quote.specs.declared.answer.Answer.{Answer}
use Rattle.nms_live.specs.declared.live.Live.{Live}

-- what the publishings answered, in order
abbrev pub publishings : List Event → List ℕ
publishings events = filter_map (λ event. version_published event.1) events

-- what a look showed a desk
abbrev pub shown_to : ℕ → Event → Option Seen
shown_to desk (step.Look by sym, Ok (reply.Seen seen)) = if by == desk then Some seen else None
shown_to desk other = None

-- what a desk's looks showed it, in order
abbrev pub looks_of : ℕ → List Event → List Seen
looks_of desk events = filter_map (shown_to desk) events

-- what an answer was made on: its symbol in its version of the tape
abbrev pub basis_of : Settings → Live → Answer → Seen
basis_of settings live answer = seen_in settings (version answer.plan.version live.tape.items) answer

-- the events are a run of the sequential machine that had the same result: no step of it was refused
pub record IsRunOf (settings : Settings) (texts : List (List ℕ)) (live : Live) (events : List Event) : Type 0 where
  pub run : IsRun (room_under settings) events
  pub answered : All (λ event. is_answered event.1 ≡ true) events
  -- the sends are what the feeds' texts say, each on the feed that it belongs to
  pub fed : (feed : Feed) → IsRead settings.roster feed (text_of feed texts) (fed_by feed events)
  pub own : All (IsOnOwnFeed settings.roster) (sent_by events)
  -- all that was sent was taken, and is the tape
  pub sent : changes_in (sent_by events) ≡ live.tape.items
  pub tape : tape_at (standing_after events) ≡ live.tape.items
  -- the publishings answered what was published
  pub published : publishings events ≡ live.published.items
  -- a desk's looks showed what its answers were made on, and then what its closing answers were made on; and it learned of no
  -- other version
  pub looks : (desk : ℕ) → looks_of desk events ≡ map (basis_of settings live) (of_desk desk (live.answers.items ++ live.closing.items))
  pub told : (desk : ℕ) → versions_of desk events ≡ versions (of_desk desk (live.answers.items ++ live.closing.items))

-- there is such a run
abbrev pub IsSomeRun : Settings → List (List ℕ) → Live → Type 0
IsSomeRun settings texts live = (events : List Event) × IsRunOf settings texts live events
