-- The change that lies packed in the lane's queue. This product's own rule.
use Rattle.std.specs.Prelude.{ℕ, ◌==◌, Option, Some, None, if◌then◌else◌}
use Rattle.nms_quote.specs.Content.{Content}
use Rattle.nms_quote.specs.declared.change.Change.{Change}
use Rattle.nms_quote.specs.declared.change.Change.TheVariants as change
use Rattle.nms_quote.specs.declared.side_quote.QState.{QState}
use Rattle.nms_feed.specs.declared.packed.Kind.{Kind}
use Rattle.nms_feed.specs.declared.packed.Kind.TheVariants as kind

-- what is quoted on a side; 0 shares mean nothing
abbrev pub content_in : (price shares : ℕ) → Option Content
content_in price shares = if shares == 0 then None else Some (record { price = price; shares = shares })

-- the change of a kind, made of what such a change has
abbrev pub change_in : Kind → (part sym : ℕ) → QState → (lot : ℕ) → (bid offer : Option Content) → Change
change_in kind.Quote part sym state lot bid offer = change.Quote part sym state bid offer
change_in kind.State part sym state lot bid offer = change.State part sym state
change_in kind.Withdraw part sym state lot bid offer = change.Withdraw part
change_in kind.Lot part sym state lot bid offer = change.Lot sym lot
