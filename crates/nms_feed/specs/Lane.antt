-- What the ends of a lane say of it. This product's own rule.
use Rattle.std.specs.Prelude.{ℕ, ◌≡◌, List, [], map, take}
use Rattle.std.specs.List.{AllByRecursion}
use Rattle.atomic_table.specs.Seated.{TableId}
use Rattle.nms_quote.specs.Merge.{feeds}
use Rattle.nms_quote.specs.declared.change.Change.{Change}
use Rattle.nms_quote.specs.declared.feed.Feed.{Feed}
use Rattle.nms_quote.specs.declared.marked.Marked.{Marked}

-- a sender: which lane it is of, the feed that marks its changes, and those that it sent, in order
pub record Sending : Type 0 where
  pub lane : TableId
  pub feed : Feed
  pub sent : List Change

-- a taker: which lane it is of, how many senders that has, and the changes that it took, in order, each with its
-- sender's feed
pub record Taking : Type 0 where
  pub lane : TableId
  pub senders : ℕ
  pub taken : List Marked

-- the sender of a feed that sent nothing yet
abbrev pub fresh : TableId → Feed → Sending
fresh lane feed = record { lane = lane; feed = feed; sent = [] }

-- what each sender sent, in order
abbrev pub lists_of : List Sending → List (List Change)
lists_of senders = map (λ sender. sender.sent) senders

-- all senders of the taker's lane, in order of feed
pub record AreSendersOf (taker : Taking) (senders : List Sending) : Type 0 where
  pub one_lane : AllByRecursion (λ sender. sender.lane ≡ taker.lane) senders
  pub in_order : map (λ sender. sender.feed) senders ≡ take taker.senders feeds
