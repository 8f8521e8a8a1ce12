-- What is known of a line that was read. This product's own rule.
use Rattle.std.specs.Prelude.{ℕ, ◌≡◌, ◌<◌, ⊤, true, length}
use Rattle.nms_quote.specs.Roster.{Listing, Sizes, holds, sizes_of}
use Rattle.nms_quote.specs.declared.change.Change.{Change}
use Rattle.nms_quote.specs.declared.change.Change.TheVariants as change
use Rattle.nms_lines.specs.Named.{AreBelow}
use Rattle.nms_lines.specs.Sources.{IsSentBy, brings, desks_of}
use Rattle.nms_lines.specs.declared.line.Kind.{Kind}
use Rattle.nms_lines.specs.declared.line.Kind.TheVariants as kind
use Rattle.nms_lines.specs.declared.line.Line.{Line}
use Rattle.nms_lines.specs.declared.line.Line.TheVariants as line
use Rattle.nms_lines.specs.declared.line.Reading.{Reading}

-- the participants and symbols that a line names are on the roster, and its desk is below the number of desks
abbrev pub IsThere : Sizes → ℕ → Line → Type 0
IsThere sizes desks (line.Change change) = holds sizes change ≡ true
IsThere sizes desks line.TakeOne = ⊤
IsThere sizes desks line.TakeAll = ⊤
IsThere sizes desks line.Publish = ⊤
IsThere sizes desks (line.Tell desk) = desk < desks
IsThere sizes desks (line.Best desk sym) = (desk < desks) × (sym < length sizes.lots)
IsThere sizes desks (line.Through desk sym price) = (desk < desks) × (sym < length sizes.lots)
IsThere sizes desks (line.Sweep desk order) = (desk < desks) × (order.sym < length sizes.lots) × AreBelow sizes.parts order.self_help

-- the kind of a record that says a change
abbrev pub kind_of_change : Change → Kind
kind_of_change (change.Quote part sym state bid offer) = kind.Quote
kind_of_change (change.State part sym state) = kind.State
kind_of_change (change.Withdraw part) = kind.Withdraw
kind_of_change (change.Lot sym lot) = kind.Lot

-- the kind of a record that says a line
abbrev pub kind_of : Line → Kind
kind_of (line.Change change) = kind_of_change change
kind_of line.TakeOne = kind.TakeOne
kind_of line.TakeAll = kind.TakeAll
kind_of line.Publish = kind.Publish
kind_of (line.Tell desk) = kind.Tell
kind_of (line.Best desk sym) = kind.Best
kind_of (line.Through desk sym price) = kind.Through
kind_of (line.Sweep desk order) = kind.Sweep

-- a change from a feed belongs to the feed
abbrev pub IsSent : Listing → Reading → Line → Type 0
IsSent roster from (line.Change change) = IsSentBy roster from change
IsSent roster from line.TakeOne = ⊤
IsSent roster from line.TakeAll = ⊤
IsSent roster from line.Publish = ⊤
IsSent roster from (line.Tell desk) = ⊤
IsSent roster from (line.Best desk sym) = ⊤
IsSent roster from (line.Through desk sym price) = ⊤
IsSent roster from (line.Sweep desk order) = ⊤

-- a line of the roster, of a kind that its source brings
pub record IsLineOf (roster : Listing) (from : Reading) (line : Line) : Type 0 where
  pub there : IsThere (sizes_of roster) (desks_of from) line
  pub brought : brings from (kind_of line) ≡ true
  pub sent : IsSent roster from line
