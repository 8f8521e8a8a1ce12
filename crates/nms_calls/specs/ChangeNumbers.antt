-- A change of a board as numbers, and the opening changes of a symbol. This product's own rule.
use Rattle.std.specs.Prelude.{◌≡◌, ◌<◌, ℕ, true, All, List, length, slice_get, Option, Some, None, Ok}
use Rattle.nms_quote.specs.Content.{Content}
use Rattle.nms_quote.specs.Roster.{Sizes, holds}
use Rattle.nms_quote.specs.declared.change.Change.{Change}
use Rattle.nms_quote.specs.declared.change.Change.TheVariants as change
use Rattle.nms_quote.specs.declared.side_quote.QState.{QState}
use Rattle.nms_quote.specs.declared.side_quote.QState.TheVariants as state
use Rattle.nms_board.specs.Cells.{Board}
use Rattle.nms_opening.specs.Opening.{OpensSymbol}
use Rattle.nms_opening.specs.declared.TheConstants.{MOST_OPENING}
use Rattle.nms_calls.specs.ChangeSaid.{change_said}
use Rattle.nms_calls.specs.declared.change_numbers.NmsChange.{NmsChange}
use Rattle.nms_calls.specs.declared.opening_numbers.NmsOpening.{NmsOpening}

abbrev pub state_number : QState → ℕ
state_number state.Automated = 0
state_number state.Manual = 1
state_number state.Halted = 2

-- a side: 0 and 0 for no quotation
abbrev pub price_number : Option Content → ℕ
price_number None = 0
price_number (Some content) = content.price

abbrev pub shares_number : Option Content → ℕ
shares_number None = 0
shares_number (Some content) = content.shares

-- the numbers of a place without a change
abbrev pub no_change : NmsChange
no_change = record {
  bid_price = 0;
  offer_price = 0;
  bid_shares = 0;
  offer_shares = 0;
  sym = 0;
  lot = 0;
  part = 0;
  kind = 0;
  state = 0;
  spare = 0;
}

-- the numbers of a change: those that its kind does not use are 0
abbrev pub change_numbers : Change → NmsChange
change_numbers (change.Quote part sym state bid offer) = record {
  bid_price = price_number bid;
  offer_price = price_number offer;
  bid_shares = shares_number bid;
  offer_shares = shares_number offer;
  sym = sym;
  lot = 0;
  part = part;
  kind = 0;
  state = state_number state;
  spare = 0;
}
change_numbers (change.State part sym state) = record no_change { sym = sym; part = part; kind = 1; state = state_number state }
change_numbers (change.Withdraw part) = record no_change { part = part; kind = 2 }
change_numbers (change.Lot sym lot) = record no_change { sym = sym; lot = lot; kind = 3 }

-- a place of the changes, all 0 if there is none
abbrev pub change_at : Option Change → NmsChange
change_at None = no_change
change_at (Some change) = change_numbers change

-- the first places have these changes, and the others none
abbrev pub AreChangesAt : List NmsChange → List Change → Type 0
AreChangesAt places changes = (place : ℕ) → place < MOST_OPENING → slice_get places place ≡ Some (change_at (slice_get changes place))

-- its numbers say the change, on each roster that holds it
abbrev pub IsSaid : Change → Type 0
IsSaid change = (sizes : Sizes) → holds sizes change ≡ true → change_said sizes (change_numbers change) ≡ Ok change

-- opening changes of a symbol: the first places have them, and on a roster of those sizes each says its change
pub record IsOpening (sizes : Sizes) (board : Board) (sym : ℕ) (out : NmsOpening) : Type 0 where
  pub changes : List Change
  pub opens : OpensSymbol board sym changes
  pub count_of : out.count ≡ length changes
  pub spare_of : out.spare ≡ 0
  pub places : AreChangesAt out.change changes
  pub said : All (λ change. change_said sizes (change_numbers change) ≡ Ok change) changes
