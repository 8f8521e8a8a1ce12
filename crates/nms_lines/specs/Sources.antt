-- What each source of records may bring. This product's own rule.
use Rattle.std.specs.Prelude.{ℕ, ◌≡◌, ⊤, not, Bool, true, false, Option, Some, None, if◌then◌else◌}
use Rattle.nms_quote.specs.Merge.{is_of_feed}
use Rattle.nms_quote.specs.Roster.{Listing, feed_of_change}
use Rattle.nms_quote.specs.declared.change.Change.{Change}
use Rattle.nms_quote.specs.declared.feed.Feed.{Feed}
use Rattle.nms_lines.specs.Layout.{Record, field, kind_named}
use Rattle.nms_lines.specs.declared.line.Kind.{Kind}
use Rattle.nms_lines.specs.declared.line.Kind.TheVariants as kind
use Rattle.nms_lines.specs.declared.line.Reading.{Reading}
use Rattle.nms_lines.specs.declared.line.Reading.TheVariants as source

-- the kinds that are a change: a participant's, or a new round lot
abbrev pub is_change_kind : Kind → Bool
is_change_kind kind.Quote = true
is_change_kind kind.State = true
is_change_kind kind.Withdraw = true
is_change_kind kind.Lot = true
is_change_kind kind.TakeOne = false
is_change_kind kind.TakeAll = false
is_change_kind kind.Publish = false
is_change_kind kind.Tell = false
is_change_kind kind.Best = false
is_change_kind kind.Through = false
is_change_kind kind.Sweep = false

-- the kind of an order
abbrev pub is_order_kind : Kind → Bool
is_order_kind kind.Quote = false
is_order_kind kind.State = false
is_order_kind kind.Withdraw = false
is_order_kind kind.Lot = false
is_order_kind kind.TakeOne = false
is_order_kind kind.TakeAll = false
is_order_kind kind.Publish = false
is_order_kind kind.Tell = false
is_order_kind kind.Best = false
is_order_kind kind.Through = false
is_order_kind kind.Sweep = true

-- the kinds that a source brings
abbrev pub brings : Reading → Kind → Bool
brings (source.Script desks) kind = true
brings (source.FromFeed feed) kind = is_change_kind kind
brings source.Changes kind = is_change_kind kind
brings (source.Orders desks) kind = is_order_kind kind

-- a kind, if the source brings it
abbrev pub brought : Reading → Option Kind → Option Kind
brought from None = None
brought from (Some kind) = if brings from kind then Some kind else None

-- the kind that a record's first field names, if the source brings it
abbrev pub kind_in : Reading → Record → Option Kind
kind_in from fields = brought from (kind_named (field fields 0))

-- the number of desks: a feed and a file of changes have none
abbrev pub desks_of : Reading → ℕ
desks_of (source.Script desks) = desks
desks_of (source.FromFeed feed) = 0
desks_of source.Changes = 0
desks_of (source.Orders desks) = desks

-- the source is a feed, and what belongs to this feed belongs to another
abbrev pub is_foreign : Reading → Option Feed → Bool
is_foreign (source.FromFeed feed) owner = not (is_of_feed owner feed)
is_foreign (source.Script desks) owner = false
is_foreign source.Changes owner = false
is_foreign (source.Orders desks) owner = false

-- a feed brings only the changes that belong to it
abbrev pub IsSentBy : Listing → Reading → Change → Type 0
IsSentBy roster (source.FromFeed feed) change = feed_of_change roster change ≡ Some feed
IsSentBy roster (source.Script desks) change = ⊤
IsSentBy roster source.Changes change = ⊤
IsSentBy roster (source.Orders desks) change = ⊤
