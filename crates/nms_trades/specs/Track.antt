-- The best protected prices of each version, kept as marks: one where they change. This product's own rule.
use Rattle.std.specs.Prelude.{ℕ, ◌≡◌, ◌+◌, ◌<◌, ◌≤◌, Bool, true, false, ◌&&◌, ◌||◌, List, get_or, length, nat_lt, not, slice_get}
use Rattle.std.specs.Prelude.{Option, Some, None}
use Rattle.nms_quote.specs.declared.side_quote.Side.TheVariants.{Bid, Offer}
use Rattle.nms_trades.specs.Judged.{whole_price}
use Rattle.nms_trades.specs.declared.track.Limits.{Limits}
use Rattle.nms_trades.specs.declared.track.Mark.{Mark}
use Rattle.nms_trades.specs.declared.track.Test.{Test}
use Rattle.nms_trades.specs.declared.track.Test.TheVariants as test
use Rattle.nms_trades.specs.declared.track.Track.{Track}

-- neither a protected bid nor a protected offer
abbrev pub nothing : Limits
nothing = record { bid = None; offer = None }

-- the mark at a place
abbrev pub mark_at : List Mark → ℕ → Mark
mark_at marks k = get_or marks k (record { version = 0; limits = nothing })

-- marks of the versions up to one: each has the limits of the versions from its own to the next mark's
pub record IsTrack (limits : ℕ → Limits) (upto : ℕ) (marks : List Mark) : Type 0 where
  pub some : 0 < length marks
  pub starts : (mark_at marks 0).version ≡ 0
  pub rising : (k : ℕ) → k + 1 < length marks → (mark_at marks k).version < (mark_at marks (k + 1)).version
  pub within : (k : ℕ) → k < length marks → (mark_at marks k).version ≤ upto
  pub holds : (k n : ℕ) → k < length marks → (mark_at marks k).version ≤ n → n ≤ upto
      → (k + 1 < length marks → n < (mark_at marks (k + 1)).version) → limits n ≡ (mark_at marks k).limits

-- a track of these limits, up to a version
abbrev pub HasTrack : (ℕ → Limits) → (upto : ℕ) → Option Track → Type 0
HasTrack limits upto None = ⊥
HasTrack limits upto (Some track) = IsTrack limits upto track.marks.items

-- marks after the limits of one more version were noted
abbrev pub IsMarked : (version : ℕ) → Limits → (was now : List Mark) → Type 0
IsMarked version limits was now =
    (all : ℕ → Limits) (upto : ℕ) → IsTrack all upto was → version ≡ upto + 1 → all version ≡ limits → IsTrack all version now

-- the same of a track
abbrev pub IsNoted : (version : ℕ) → Limits → (was now : Option Track) → Type 0
IsNoted version limits was now =
    (all : ℕ → Limits) (upto : ℕ) → HasTrack all upto was → version ≡ upto + 1 → all version ≡ limits → HasTrack all version now

-- the tracks at the first of some places are noted, and no other one is changed
pub record AreNoted (place : ℕ → ℕ) (version : ℕ) (limits : ℕ → Limits) (count : ℕ) (was now : List Track) : Type 0 where
  pub places : length now ≡ length was
  pub noted : (k : ℕ) → k < count → IsNoted version (limits k) (slice_get was (place k)) (slice_get now (place k))
  pub others : (other : ℕ) → ((k : ℕ) → k < count → place k ≡ other → ⊥) → slice_get now other ≡ slice_get was other

-- whether there is a price
abbrev pub is_there : Option ℕ → Bool
is_there None = false
is_there (Some price) = true

-- whether a bid is above a price
abbrev pub bid_above : ℕ → Option ℕ → Bool
bid_above price None = false
bid_above price (Some bid) = nat_lt price bid

-- whether an offer is below a price
abbrev pub offer_below : ℕ → Option ℕ → Bool
offer_below price None = false
offer_below price (Some offer) = nat_lt offer price

-- whether a price in 1/1,000,000 dollar trades through a bid or an offer
abbrev pub passes_limits : (millionths : ℕ) → Limits → Bool
passes_limits millionths limits =
    bid_above (whole_price Bid millionths) limits.bid || offer_below (whole_price Offer millionths) limits.offer

-- a test of limits
abbrev pub holds_of : Test → (millionths : ℕ) → Limits → Bool
holds_of test.Through millionths limits = passes_limits millionths limits
holds_of test.Clean millionths limits = not (passes_limits millionths limits)
holds_of (test.Inferior Bid) millionths limits = is_there limits.bid && not (bid_above (whole_price Bid millionths) limits.bid)
holds_of (test.Inferior Offer) millionths limits = is_there limits.offer && not (offer_below (whole_price Offer millionths) limits.offer)
