-- What a machine keeps, and that its state is the one that a run has led to. The tape itself is not stored.
use Rattle.std.specs.Prelude.{ℕ, ◌≡◌, ◌+◌, ◌≤◌, All, true, List, [], length, drop}
use Rattle.nms_quote.specs.Roster.{holds}
use Rattle.nms_quote.specs.declared.TheConstants.{MOST_CHANGES}
use Rattle.nms_quote.specs.declared.marked.Marked.{Marked}
use Rattle.nms_board.specs.Cells.{Board, StandsFor}
use Rattle.nms_fees.specs.Settings.{Settings}
use Rattle.nms_quote.specs.Roster.{sizes_of}
use Rattle.nms_flow.specs.Run.{Event, IsAnswered, IsRun, Room, Standing, after, standing_after, version_at}

-- the published board, the changes sent since with the marks of their feeds, how many of these were taken, and the two limits
pub record State : Type 0 where
  pub board : Board
  pub changes : List Marked
  pub pending : ℕ
  pub most_queued : ℕ
  pub most_taken : ℕ

abbrev pub room_of : State → Room
room_of state = record { sizes = state.board.sizes; queue = state.most_queued; tape = state.most_taken }

-- the room that a setup gives
abbrev pub room_under : Settings → Room
room_under settings = record { sizes = sizes_of settings.roster; queue = settings.queue; tape = settings.tape_limit }

-- the machine's state once these were sent, n of them taken, and m published
pub record StandsAt (state : State) (at : Standing) : Type 0 where
  pub board : StandsFor state.board (version_at at)
  pub changes : state.changes ≡ drop at.published at.sent
  pub pending : state.pending + at.published ≡ at.taken
  pub taken : at.taken ≤ length at.sent

-- nothing sent, taken or published
abbrev pub start : Standing
start = record { sent = []; taken = 0; published = 0 }

-- the machine's state is the one that the run of these events has led to
pub record IsAfter (state : State) (events : List Event) : Type 0 where
  pub run : IsRun (room_of state) events
  pub stands : StandsAt state (standing_after events)

-- the machine went on by an event: whatever its state was, the answer is the one due there, and its new state is the
-- one that the event leads to
pub record WentOn (old new : State) (event : Event) : Type 0 where
  pub answered : (at : Standing) → StandsAt old at → IsAnswered (room_of old) at event
  pub stands : (at : Standing) → StandsAt old at → StandsAt new (after at event)
  pub room : room_of new ≡ room_of old

-- what every machine keeps: its changes are of the roster, the tape is within its limit, and the queue has all of its room
pub record IsSound (state : State) (capacity : ℕ) : Type 0 where
  pub held : All (λ marked. holds state.board.sizes marked.change ≡ true) state.changes
  pub pending : state.pending ≤ length state.changes
  pub queued : length state.changes ≤ state.pending + state.most_queued
  pub taken : state.board.applied + state.pending ≤ state.most_taken
  pub limit : state.most_taken ≤ MOST_CHANGES
  pub room : state.pending + state.most_queued ≤ capacity
