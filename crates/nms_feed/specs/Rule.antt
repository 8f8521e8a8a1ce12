-- The rule of the lane's queue: what was taken, followed by what is in the queue, is what the senders sent,
-- and each pass knows its part of it. This product's own rule.
use Rattle.std.specs.Prelude.{ℕ, ◌≡◌, ◌≤◌, List, ◌++◌, length, Some}
use Rattle.std.specs.List.{AllByRecursion}
use mathlib.Core.Option.{some}
use lib.ListN.{get_elem?}
use Rattle.nms_quote.specs.Merge.{of_feed}
use Rattle.nms_quote.specs.declared.feed.Feed.{Feed}
use Rattle.nms_quote.specs.declared.marked.Marked.{Marked}
use Rattle.nms_feed.specs.declared.TheConstants.{MOST_SENT}
use Rattle.nms_feed.specs.declared.known.Known.{Known}
use Rattle.nms_feed.specs.declared.known.Sent.{Sent}

-- a pass is the only one that sends for a feed, and knows all that was sent for it
pub record IsAllSent (whole : List Marked) (holder : Feed → ℕ) (pass : ℕ) (sent : Sent) : Type 0 where
  pub alone : holder sent.feed ≡ pass
  pub all : sent.changes ≡ of_feed sent.feed whole

-- what a pass knows is true: for each feed that it may send for, and for what was taken, if it may take
pub record Fits (whole taken : List Marked) (holder : Feed → ℕ) (taker pass : ℕ) (known : Known) : Type 0 where
  pub sends : AllByRecursion (IsAllSent whole holder pass) known.sent
  pub takes : (marked : List Marked) → known.taken ≡ Some marked → (taker ≡ pass) × (marked ≡ taken)

-- the rule, over what the queue holds and what each pass knows
pub record Kept (items : List Marked) (views : List Known) : Type 0 where
  -- all that was sent, in the order in which it came into the queue; what was taken
  pub whole : List Marked
  pub taken : List Marked
  -- the pass that sends for each feed; the pass that takes
  pub holder : Feed → ℕ
  pub taker : ℕ
  pub order : whole ≡ taken ++ items
  pub within : (feed : Feed) → length (of_feed feed whole) ≤ MOST_SENT
  pub each : (pass : ℕ) (known : Known) → get_elem? views pass ≡ some known → Fits whole taken holder taker pass known
