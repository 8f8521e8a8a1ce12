-- The law of the text of changes: what is written of a change is read as that change. This product's own rule.
use Rattle.std.specs.Prelude.{ℕ, ◌≡◌, ◌≤◌, ⊤, true, false, List, All, Option, Some, None, Ok, map}
use Rattle.nms_units.specs.declared.TheConstants.{MOST_LOT, MOST_PRICE, MOST_SHARES}
use Rattle.nms_quote.specs.Content.{Content}
use Rattle.nms_quote.specs.Roster.{Listing, feed_of_change, holds, sizes_of}
use Rattle.nms_quote.specs.declared.change.Change.{Change}
use Rattle.nms_quote.specs.declared.change.Change.TheVariants as change
use Rattle.nms_lines.specs.LineOf.{kind_of_change}
use Rattle.nms_lines.specs.Lines.{reading}
use Rattle.nms_lines.specs.Records.{AreAllRecords}
use Rattle.nms_lines.specs.Sources.{brings, is_foreign}
use Rattle.nms_lines.specs.declared.line.Line.TheVariants as line
use Rattle.nms_lines.specs.declared.line.Reading.{Reading}
use Rattle.nms_change_text.specs.ChangeText.{change_record, changes_text}

-- a price and shares that a field can hold
abbrev pub IsSideInRange : Option Content → Type 0
IsSideInRange None = ⊤
IsSideInRange (Some quote) = (1 ≤ quote.price) × (quote.price ≤ MOST_PRICE) × (1 ≤ quote.shares) × (quote.shares ≤ MOST_SHARES)

-- a change whose numbers a record can hold: each change of the program is one
abbrev pub IsInRange : Change → Type 0
IsInRange (change.Quote part sym state bid offer) = IsSideInRange bid × IsSideInRange offer
IsInRange (change.State part sym state) = ⊤
IsInRange (change.Withdraw part) = ⊤
IsInRange (change.Lot sym lot) = (1 ≤ lot) × (lot ≤ MOST_LOT)

-- a change of the roster whose numbers a record can hold
abbrev pub FitsRecord : Listing → Change → Type 0
FitsRecord roster change = (holds (sizes_of roster) change ≡ true) × IsInRange change

-- a change that a source may bring: a script and a file of changes bring any, a feed its own
abbrev pub MayBring : Listing → Reading → Change → Type 0
MayBring roster from change = (brings from (kind_of_change change) ≡ true) × (is_foreign from (feed_of_change roster change) ≡ false)

-- its record says it, from any source that may bring it
abbrev pub ReadsBack : Listing → Change → Type 0
ReadsBack roster change =
    (from : Reading) → MayBring roster from change → reading roster from (change_record roster change) ≡ Ok (line.Change change)

-- the text of changes has their records and no others, and each record says its change
abbrev pub ChangesReadAsWritten : Listing → Type 0
ChangesReadAsWritten roster = (changes : List Change) → All (FitsRecord roster) changes
    → AreAllRecords (Some (changes_text roster changes)) (map (change_record roster) changes)
    × All (ReadsBack roster) changes
