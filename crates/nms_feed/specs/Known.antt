-- What a pass to the lane's queue knows, and how that is cut and put together. This product's own rule.
use Rattle.std.specs.Prelude.{ℕ, ◌≡◌, ◌≤◌, ◌*◌, List, [], ◌∷◌, ◌++◌, length, map, take, drop, Some, None, unwrap_or}
use Rattle.nms_quote.specs.Merge.{feeds}
use Rattle.nms_quote.specs.declared.change.Change.{Change}
use Rattle.nms_quote.specs.declared.feed.Feed.{Feed}
use Rattle.nms_quote.specs.declared.TheConstants.{MOST_FEEDS}
use Rattle.nms_quote.specs.declared.marked.Marked.{Marked}
use Rattle.nms_feed.specs.declared.TheConstants.{MOST_SENT}
use Rattle.nms_feed.specs.declared.known.Known.{Known}
use Rattle.nms_feed.specs.declared.known.Sent.{Sent}

abbrev pub sent_for : Feed → List Change → Sent
sent_for feed changes = record { feed = feed; changes = changes }

-- nothing yet
abbrev pub unsent : Feed → Sent
unsent feed = sent_for feed []

-- it may send for one feed, for which these were sent, and take nothing
abbrev pub sender_view : Feed → List Change → Known
sender_view feed changes = record { sent = sent_for feed changes ∷ []; taken = None }

-- it may take, and these were taken; only it may send for the feeds that have no sender, and nothing was sent for these
abbrev pub taker_view : ℕ → List Marked → Known
taker_view senders taken = record { sent = map unsent (drop senders feeds); taken = Some taken }

-- the first pass may send for each feed, and take
abbrev pub first_view : Known
first_view = record { sent = map unsent feeds; taken = Some [] }

-- it may do nothing any more
abbrev pub spent_view : Known
spent_view = record { sent = []; taken = None }

-- without the right to send for the first of its feeds
abbrev pub without_first : Known → Known
without_first known = record { sent = drop 1 known.sent; taken = known.taken }

-- only that right
abbrev pub first_alone : Known → Known
first_alone known = record { sent = take 1 known.sent; taken = None }

-- with the rights to send that another has
abbrev pub gathered : Known → Known → Known
gathered known other = record { sent = known.sent ++ other.sent; taken = known.taken }

-- what was sent for the first of its feeds
abbrev pub first_sent : List Sent → List Change
first_sent [] = []
first_sent (sent ∷ more) = sent.changes

-- what was taken, and nothing if it may not take
abbrev pub taken_in : Known → List Marked
taken_in known = unwrap_or known.taken []

-- what a sender's pass knows: what was sent for its feed, n changes
pub record IsSender (known : Known) (feed : Feed) (count : ℕ) : Type 0 where
  pub one : known ≡ sender_view feed (first_sent known.sent)
  pub counted : count ≡ length (first_sent known.sent)
  pub within : count ≤ MOST_SENT

-- what the taker's pass knows, in a lane of n senders: what was taken, m changes
pub record IsTaker (known : Known) (senders count : ℕ) : Type 0 where
  pub one : known ≡ taker_view senders (taken_in known)
  pub few : senders ≤ MOST_FEEDS
  pub counted : count ≡ length (taken_in known)
  pub within : count ≤ MOST_FEEDS * MOST_SENT
