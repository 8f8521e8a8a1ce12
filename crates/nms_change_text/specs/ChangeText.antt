-- A change as a record of a file of changes. This layout is this product's own rule.
use Rattle.std.specs.Prelude.{ℕ, List, [], ◌∷◌, ◌++◌, Option, Some, None, codes, map}
use Rattle.std.specs.Fmt.{decimal}
use Rattle.nms_units.specs.Price.{price_text}
use Rattle.nms_quote.specs.Content.{Content}
use Rattle.nms_quote.specs.Roster.{Listing, part_text, symbol_text}
use Rattle.nms_quote.specs.declared.change.Change.{Change}
use Rattle.nms_quote.specs.declared.change.Change.TheVariants as change
use Rattle.nms_quote.specs.declared.side_quote.QState.{QState}
use Rattle.nms_quote.specs.declared.side_quote.QState.TheVariants.{Automated, Manual, Halted}
use Rattle.nms_lines.specs.Layout.{Record}
use Rattle.nms_lines.specs.Text.{text_of}

-- the letter of a state
abbrev pub state_letter : QState → List ℕ
state_letter Automated = codes "A"
state_letter Manual = codes "M"
state_letter Halted = codes "H"

-- price,shares: both empty if there is no quotation
abbrev pub side_fields : Option Content → Record
side_fields None = [] ∷ [] ∷ []
side_fields (Some quote) = price_text quote.price ∷ decimal quote.shares ∷ []

-- the letter of a change's kind
abbrev pub kind_letter : Change → List ℕ
kind_letter (change.Quote part sym state bid offer) = codes "Q"
kind_letter (change.State part sym state) = codes "S"
kind_letter (change.Withdraw part) = codes "X"
kind_letter (change.Lot sym lot) = codes "R"

-- the fields after it: part,sym,state,bid,bidshares,offer,offershares of a quote, part,sym,state of a state, part of a
-- withdrawal, sym,lot of a round lot
abbrev pub said_fields : Listing → Change → Record
said_fields roster (change.Quote part sym state bid offer) =
    part_text roster part ∷ symbol_text roster sym ∷ state_letter state ∷ (side_fields bid ++ side_fields offer)
said_fields roster (change.State part sym state) = part_text roster part ∷ symbol_text roster sym ∷ state_letter state ∷ []
said_fields roster (change.Withdraw part) = part_text roster part ∷ []
said_fields roster (change.Lot sym lot) = symbol_text roster sym ∷ decimal lot ∷ []

-- the record of a change
abbrev pub change_record : Listing → Change → Record
change_record roster change = kind_letter change ∷ said_fields roster change

-- the text of changes, a record each
abbrev pub changes_text : Listing → List Change → List ℕ
changes_text roster changes = text_of (map (change_record roster) changes)
