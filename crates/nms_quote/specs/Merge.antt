-- Changes with the feeds that brought them, and the merge of the feeds' lists. This product's own rule.
use Rattle.std.specs.Prelude.{ℕ, ◌≡◌, Bool, false, List, [], ◌∷◌, nat_eq, filter, slice_index_or, Option, Some, None, if◌then◌else◌}
use Rattle.nms_quote.specs.Roster.{Listing, feed_of_change}
use Rattle.nms_quote.specs.Tape.{Tape}
use Rattle.nms_quote.specs.declared.change.Change.{Change}
use Rattle.nms_quote.specs.declared.feed.Feed.{Feed}
use Rattle.nms_quote.specs.declared.feed.Feed.TheVariants as feed
use Rattle.nms_quote.specs.declared.marked.Marked.{Marked}

-- a feed's place among the feeds
abbrev pub place_of : Feed → ℕ
place_of feed.A = 0
place_of feed.B = 1
place_of feed.C = 2
place_of feed.D = 3
place_of feed.E = 4
place_of feed.F = 5
place_of feed.G = 6
place_of feed.H = 7

-- all feeds, in order of place
abbrev pub feeds : List Feed
feeds = feed.A ∷ feed.B ∷ feed.C ∷ feed.D ∷ feed.E ∷ feed.F ∷ feed.G ∷ feed.H ∷ []

-- whether two feeds are one
abbrev pub is_same_feed : Feed → Feed → Bool
is_same_feed one other = nat_eq (place_of one) (place_of other)

-- whether there is a feed, and it is the one asked for
abbrev pub is_of_feed : Option Feed → Feed → Bool
is_of_feed None wanted = false
is_of_feed (Some feed) wanted = is_same_feed feed wanted

-- the changes of a tape that belong to the feed, in order
abbrev pub changes_of : Listing → Feed → Tape → List Change
changes_of roster feed tape = filter (λ change. is_of_feed (feed_of_change roster change) feed) tape

-- the changes that bear a feed's mark, in order
unfoldable pub of_feed : Feed → List Marked → List Change
of_feed feed [] = []
of_feed feed (marked ∷ more) = if is_same_feed feed marked.feed then marked.change ∷ of_feed feed more else of_feed feed more

-- a feed's own list, of lists in order of place: an empty one past the last
abbrev pub own_of : {X : Type 0} → Feed → List (List X) → List X
own_of feed lists = slice_index_or lists (place_of feed) []

-- a merge of lists, one for each feed: the changes that bear a feed's mark are that feed's list, in order
abbrev pub IsMerge : List (List Change) → List Marked → Type 0
IsMerge lists marked = (feed : Feed) → of_feed feed marked ≡ own_of feed lists
