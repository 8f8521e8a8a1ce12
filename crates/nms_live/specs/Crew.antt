-- The workers of the feeds and of the desks as they start and as they come back, and what they all did. This product's
-- own rule.
use Rattle.std.specs.Prelude.{ℕ, ◌≡◌, ◌<◌, List, [], length, map, slice_index_or, Option, None}
use Rattle.std.specs.List.{AllByRecursion}
use Rattle.std.specs.declared.thread.PromisedHandle.{PromisedHandle}
use Rattle.nms_quote.specs.Roster.{Listing, sizes_of}
use Rattle.nms_feed.specs.Lane.{AreSendersOf, Sending, Taking}
use Rattle.nms_fees.specs.Settings.{Settings}
use Rattle.nms_versions.specs.Taped.{Knowing, tape_of}
use Rattle.nms_versions.specs.Pages.{Book}
use Rattle.nms_live.specs.Answering.{IsDesked, IsWorked, numbered, own}
use Rattle.nms_live.specs.Faults.{IsNoLineIfAny, first_among}
use Rattle.nms_live.specs.Keeping.{IsWhole, Keeping}
use Rattle.nms_live.specs.Reading.{IsFed, IsTapeOf, text_of}
use Rattle.nms_quote.specs.declared.desk_order.DeskOrder.{DeskOrder}
use Rattle.nms_live.specs.declared.desk_work.DeskJob.{DeskJob}
use Rattle.nms_live.specs.declared.desk_work.Desked.{Desked}
use Rattle.nms_live.specs.declared.fed_feed.Fed.{Fed}
use Rattle.nms_live.specs.declared.fed_feed.FeedJob.{FeedJob}
use Rattle.nms_live.specs.declared.given.Given.{Given}
use Rattle.nms_live.specs.declared.live_fault.LiveFault.{LiveFault}

-- the feeds' texts, in order of place
abbrev pub texts_of : Given → List (List ℕ)
texts_of given = map (λ text. text.items) given.feeds.items

-- nothing was sent by it
abbrev pub IsFresh : Sending → Type 0
IsFresh sender = sender.sent ≡ []

-- the ends of a lane that has a sender for each text, in order of place; nothing was sent, and nothing taken
pub record AreFreshEnds (texts : List (List ℕ)) (taker : Taking) (senders : List Sending) : Type 0 where
  pub of_lane : AreSendersOf taker senders
  pub all : taker.senders ≡ length texts
  pub fresh : AllByRecursion IsFresh senders
  pub none_taken : taker.taken ≡ []

-- a feed's worker returned its end of the lane; it sent what its text says, or reports why it stopped
pub record IsFedBy (roster : Listing) (texts : List (List ℕ)) (before : Sending) (back : Fed) : Type 0 where
  pub lane_is : back.sender.lane ≡ before.lane
  pub feed_is : back.sender.feed ≡ before.feed
  pub fed : IsFed roster before.feed (text_of before.feed texts) back.sender.sent back.stop

-- what a feed's worker returns keeps this promise
abbrev pub KeepsFeedJob : FeedJob → Fed → Type 0
KeepsFeedJob job back = IsFedBy job.setup.value.roster (map (λ text. text.items) job.feeds.value.items) job.sender.value back

-- what a started worker of a feed returned keeps its promise
abbrev pub HasKept : PromisedHandle Fed FeedJob → Fed → Type 0
HasKept handle back = KeepsFeedJob handle.promise back

-- the promise holds of whatever the worker of a feed returns
abbrev pub WillBeFed : Listing → List (List ℕ) → Sending → PromisedHandle Fed FeedJob → Type 0
WillBeFed roster texts before handle = (back : Fed) → HasKept handle back → IsFedBy roster texts before back

-- the first of the faults that the feeds' workers stopped with
abbrev pub first_stop : List Fed → Option LiveFault
first_stop fed = first_among (λ back. back.stop) None fed

-- each desk is of the opening and the roster
abbrev pub AreReady : Settings → Book → List Knowing → Type 0
AreReady settings opening desks =
    (k : ℕ) (d : Knowing) → k < length desks → ((slice_index_or desks k d).opening ≡ opening)
    × ((slice_index_or desks k d).sizes ≡ sizes_of settings.roster)

-- what a desk's worker returns keeps this promise
abbrev pub KeepsJob : DeskJob → Desked → Type 0
KeepsJob job back = IsDesked job.setup.value job.mine.value.orders.items job.desk.value back

-- whatever the worker of a desk returns, its work on these orders is done from the desk as it went
abbrev pub WillBeDesked : Settings → List (ℕ × DeskOrder) → Knowing → PromisedHandle Desked DeskJob → Type 0
WillBeDesked settings orders desk handle = (back : Desked) → KeepsJob handle.promise back → IsDesked settings orders desk back

-- each desk's worker was started on the desk's own orders
abbrev pub AreStarted : Settings → List DeskOrder → List Knowing → List (PromisedHandle Desked DeskJob) → Type 0
AreStarted settings orders desks handles =
    (k : ℕ) (d : Knowing) (h : PromisedHandle Desked DeskJob) → k < length handles
    → WillBeDesked settings (own k (numbered orders)) (slice_index_or desks k d) (slice_index_or handles k h)

-- a worker's desk is of the opening and the roster, and unless it stopped early, its work is done
pub record IsBack (settings : Settings) (orders : List DeskOrder) (opening : Book) (place : ℕ) (back : Desked) : Type 0 where
  pub opening_is : back.desk.opening ≡ opening
  pub sizes_are : back.desk.sizes ≡ sizes_of settings.roster
  pub worked : back.stop ≡ None → IsWorked settings (own place (numbered orders)) back.desk.known back.answers.items
  pub stopped : IsNoLineIfAny back.stop

-- each desk's worker came back
abbrev pub AreBack : Settings → List DeskOrder → Book → List Desked → Type 0
AreBack settings orders opening desks =
    (k : ℕ) (d : Desked) → k < length desks → IsBack settings orders opening k (slice_index_or desks k d)

-- all workers came back and none stopped: the tape is a merge of the feeds, all of it is published, and each desk
-- answered its orders
pub record IsDone (given : Given) (keeping : Keeping) (desks : List Desked) : Type 0 where
  pub went_on : keeping.stop ≡ None
  pub tape : IsTapeOf given.setup.now.roster (texts_of given) (tape_of keeping.taped)
  pub whole : IsWhole keeping
  pub back : AreBack given.setup.now given.orders.items keeping.taped.opening desks
  pub all : length desks ≡ given.setup.now.desks
  pub ended : (k : ℕ) (d : Desked) → k < length desks → (slice_index_or desks k d).stop ≡ None
