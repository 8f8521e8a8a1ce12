-- What a source brings.
use Rattle.std.proofs.Common.{ℕ, ◌≡◌, ◌<◌, ◌&&◌, Bool, true, false, Option, Some, None, length, ap, refl, arith}
use Rattle.std.specs.Prelude.{not, nat_lt}
use Rattle.std.proofs.Math.ListN.{length-map}
use Rattle.std.proofs.lemmas.Bool.Decides.{nat_tests}
use Rattle.nms_quote.specs.Merge.{is_of_feed}
use Rattle.nms_quote.specs.Roster.{Listing, Name, feed_of_change, sizes_of}
use Rattle.nms_quote.specs.declared.change.Change.{Change}
use Rattle.nms_quote.specs.declared.feed.Feed.{Feed}
use Rattle.nms_quote.proofs.Offered.{same_feed-one}
use Rattle.nms_lines.specs.Sources.{IsSentBy, is_foreign}
use Rattle.nms_lines.specs.declared.line.Reading.{Reading}
use Rattle.nms_lines.specs.declared.line.Reading.TheVariants as source

same : (b : Bool) → not b ≡ false → b ≡ true
same true none = refl
same false none = absurd (cc)

-- what is of the feed that is read is its own
own_feed : (owner : Option Feed) (feed : Feed) → not (is_of_feed owner feed) ≡ false → owner ≡ Some feed
own_feed None feed none = absurd (cc)
own_feed (Some owner) feed none = ap (λ (f : Feed). Some f) (same_feed-one owner feed (same _ none))

-- so a feed brings it
pub sent_by : (roster : Listing) (from : Reading) (change : Change) → is_foreign from (feed_of_change roster change) ≡ false
    → IsSentBy roster from change
sent_by roster (source.FromFeed feed) change own = own_feed (feed_of_change roster change) feed own
sent_by roster (source.Script desks) change own = tt
sent_by roster source.Changes change own = tt
sent_by roster (source.Orders desks) change own = tt

-- a participant and a symbol of the roster
pub both_there : (roster : Listing) (part symbol : ℕ) → part < length roster.parts → symbol < length roster.syms
    → (nat_lt part (sizes_of roster).parts && nat_lt symbol (length (sizes_of roster).lots)) ≡ true
both_there roster part symbol one other = grind (arith, nat_tests, length-map roster.syms (λ (entry : Name × ℕ). entry.1))
