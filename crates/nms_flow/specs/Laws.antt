-- Laws above runs of the machine, in the rules' own words.
use Rattle.std.specs.Prelude.{ℕ, ◌≡◌, ◌==◌, List, slice_get, take, Option, Some, None, Ok, if◌then◌else◌}
use Rattle.std.specs.List.{filter_map}
use Rattle.nms_quote.specs.declared.change.Change.{Change}
use Rattle.nms_quote.specs.declared.feed.Feed.{Feed}
use Rattle.nms_quote.specs.declared.marked.Marked.{Marked}
use Rattle.nms_quote.specs.Merge.{is_same_feed}
use Rattle.nms_quote.specs.Roster.{Listing, feed_of_change}
use Rattle.nms_board.specs.View.{Seen, view_of}
use Rattle.nms_flow.specs.Run.{Event, Room, is_answered, standing_after, version_at}
use Rattle.nms_flow.specs.declared.step.Step.{Step}
use Rattle.nms_flow.specs.declared.step.Step.TheVariants as step
use Rattle.nms_flow.specs.declared.reply.Reply.TheVariants as reply

-- a change that an event sent on the feed
abbrev pub sent_on : Feed → Step → Option Change
sent_on feed (step.Send on change) = if is_same_feed feed on then Some change else None
sent_on feed step.Take = None
sent_on feed step.Publish = None
sent_on feed (step.Tell desk) = None
sent_on feed (step.Look desk sym) = None

-- what a feed sent: the changes of its sends that were answered, in order
abbrev pub fed_by : Feed → List Event → List Change
fed_by feed events = filter_map (λ event. if is_answered event.1 then sent_on feed event.0 else None) events

-- a change was sent on the feed that it belongs to
abbrev pub IsOnOwnFeed : Listing → Marked → Type 0
IsOnOwnFeed roster marked = feed_of_change roster marked.change ≡ Some marked.feed

-- the version of an answer, which a desk is shown or learns of
abbrev pub version_for : ℕ → Event → Option ℕ
version_for desk (step.Tell to, Ok (reply.Told told version)) = if to == desk then Some version else None
version_for desk (step.Look to sym, Ok (reply.Seen seen)) = if to == desk then Some seen.version else None
version_for desk other = None

-- the versions that a desk was shown or learned of, in order
abbrev pub versions_of : ℕ → List Event → List ℕ
versions_of desk events = filter_map (version_for desk) events

-- each view is that of the version published last before it
abbrev pub ShowsPublished : Room → List Event → Type 0
ShowsPublished room events =
    (place desk sym : ℕ) (seen : Seen) → slice_get events place ≡ Some (step.Look desk sym, Ok (reply.Seen seen))
    → seen ≡ view_of room.sizes (version_at (standing_after (take place events))) sym
