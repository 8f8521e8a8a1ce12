-- What a row of one side means, in a file with a row for each bid and each offer: it changes this side of what its venue shows of
-- its symbol, and keeps the other one. This product's own rule.
use Rattle.std.specs.Prelude.{ℕ, ◌≡◌, nat_lt, ◌+◌, ◌*◌, ◌==◌, ◌&&◌, Bool, true, false, List, Option, Some, None, option_map, unwrap_or, slice_get}
use Rattle.std.specs.Prelude.{Result, Ok, Err, if◌then◌else◌}
use Rattle.nms_quote.specs.Content.{Content}
use Rattle.nms_quote.specs.declared.TheConstants.{MOST_PARTICIPANTS}
use Rattle.nms_quote.specs.declared.change.Change.{Change}
use Rattle.nms_quote.specs.declared.change.Change.TheVariants as change
use Rattle.nms_quote.specs.declared.side_quote.QState.{QState}
use Rattle.nms_quote.specs.declared.side_quote.QState.TheVariants.{Automated, Halted, Manual}
use Rattle.nms_quote.specs.declared.side_quote.Side.{Side}
use Rattle.nms_quote.specs.declared.side_quote.Side.TheVariants.{Bid, Offer}
use Rattle.nms_import.specs.declared.cause.Cause.{Cause}
use Rattle.nms_import.specs.declared.cause.Cause.TheVariants as cause
use Rattle.nms_import.specs.declared.entry.Entry.{Entry}
use Rattle.nms_import.specs.declared.meanings.Half.{Half}
use Rattle.nms_import.specs.declared.meanings.Half.TheVariants as half
use Rattle.nms_import.specs.declared.side_rows.OneSide.{OneSide}
use Rattle.nms_import.specs.declared.side_rows.SideRow.{SideRow}
use Rattle.nms_import.specs.declared.side_rows.Sides.{Sides}
use Rattle.nms_import.specs.Mapping.{◌>>=◌}

-- ---- what a row says

-- a row of a side is read as any other row, by columns in which the other side is empty: its change says the side, the state
-- there, and the price and the shares, if the venue shows a quotation on this side
abbrev pub content_at : Side → (bid offer : Option Content) → Option Content
content_at Bid bid offer = bid
content_at Offer bid offer = offer

abbrev pub side_row : Side → (time : ℕ) → Change → Option SideRow
side_row side time (change.Quote part sym state bid offer) =
    Some (record { time = time; part = part; sym = sym; side = side; state = state; content = content_at side bid offer })
side_row side time (change.State part sym state) = None
side_row side time (change.Withdraw part) = None
side_row side time (change.Lot sym lot) = None

-- ---- what a venue shows

-- nothing on either side
abbrev pub no_sides : Sides
no_sides = record { bid = None; offer = None }

-- what each venue shows of each symbol; at first nothing
abbrev pub Kept : Type 0
Kept = (part sym : ℕ) → Sides

abbrev pub nothing_kept : Kept
nothing_kept part sym = no_sides

-- a venue shows these sides of a symbol from now on
abbrev pub put : Kept → (part sym : ℕ) → Sides → Kept
put kept part sym sides other_part other_sym =
    if other_part == part && other_sym == sym then sides else kept other_part other_sym

-- the side of a row
abbrev pub own_side : SideRow → Option OneSide
own_side row = option_map (λ content. record { content = content; state = row.state }) row.content

-- the other side. A halt is of both sides, and after it a side is shown again from its own next row on
abbrev pub unless_halted : OneSide → QState → Option OneSide
unless_halted it Halted = None
unless_halted it Automated = Some it
unless_halted it Manual = Some it

abbrev pub other_side : (own : QState) → Option OneSide → Option OneSide
other_side own None = None
other_side Halted (Some it) = Some (record { content = it.content; state = Halted })
other_side Automated (Some it) = unless_halted it it.state
other_side Manual (Some it) = unless_halted it it.state

-- both sides after a row
abbrev pub with_row : Sides → SideRow → Side → Sides
with_row sides row Bid = record { bid = own_side row; offer = other_side row.state sides.offer }
with_row sides row Offer = record { bid = other_side row.state sides.bid; offer = own_side row }

abbrev pub sides_after : Sides → SideRow → Sides
sides_after sides row = with_row sides row row.side

-- ---- the quotation

-- only this side is manual, and no record says so: the row is refused, or both sides are in the state that the mapping chose
abbrev pub half_as : Half → Side → Result QState Cause
half_as half.Refuse side = Err (cause.OneSided side)
half_as half.Manual side = Ok Manual
half_as half.Automated side = Ok Automated

-- the state of both sides that are shown, if it is one
abbrev pub agreed : Half → (bid offer : QState) → Result QState Cause
agreed half Automated Manual = half_as half Offer
agreed half Manual Automated = half_as half Bid
agreed half bid offer = Ok bid

-- the state of the sides that are shown; that of the row, if none is
abbrev pub both_state : Half → (own : QState) → (bid offer : Option OneSide) → Result QState Cause
both_state half own None None = Ok own
both_state half own (Some bid) None = Ok bid.state
both_state half own None (Some offer) = Ok offer.state
both_state half own (Some bid) (Some offer) = agreed half bid.state offer.state

-- the quotation after a row, or why there is none
abbrev pub content_of : Option OneSide → Option Content
content_of side = option_map (λ it. it.content) side

abbrev pub quote_of : Half → SideRow → Sides → Result Change Cause
quote_of half row sides = do
  state ← both_state half row.state sides.bid sides.offer
  Ok (change.Quote row.part row.sym state (content_of sides.bid) (content_of sides.offer))

abbrev pub quote_after : Half → Sides → SideRow → Result Change Cause
quote_after half sides row = quote_of half row (sides_after sides row)

-- ---- rows one after another

-- what a row gives, and what its venue shows of the symbol from then on. A refused row leaves nothing shown on either side, unless
-- the mapping keeps the earlier quotation
pub record Step : Type 0 where
  pub change : Option Change
  pub sides : Sides

abbrev pub refused_step : (withdraws : Bool) → Sides → (part sym : ℕ) → Step
refused_step true sides part sym = record { change = Some (change.Quote part sym Automated None None); sides = no_sides }
refused_step false sides part sym = record { change = None; sides = sides }

abbrev pub step_as : (withdraws : Bool) → Sides → SideRow → Result Change Cause → Step
step_as withdraws sides row (Ok said) = record { change = Some said; sides = sides_after sides row }
step_as withdraws sides row (Err why) = refused_step withdraws sides row.part row.sym

abbrev pub step_of : Half → (withdraws : Bool) → Sides → SideRow → Step
step_of half withdraws sides row = step_as withdraws sides row (quote_after half sides row)

-- only one of the sides that are shown is manual
abbrev pub is_mixed : (bid offer : QState) → Bool
is_mixed Automated Manual = true
is_mixed Manual Automated = true
is_mixed bid offer = false

abbrev pub is_half : (bid offer : Option OneSide) → Bool
is_half (Some bid) (Some offer) = is_mixed bid.state offer.state
is_half bid offer = false

-- the entry of a row whose venue then shows these sides
abbrev pub entry_at : SideRow → Sides → Change → Entry
entry_at row sides said = record { time = row.time; change = said; one_sided = is_half sides.bid sides.offer }

-- what each venue shows of each symbol after a row
abbrev pub kept_after : Half → (withdraws : Bool) → Kept → SideRow → Kept
kept_after half withdraws kept row =
    put kept row.part row.sym (step_of half withdraws (kept row.part row.sym) row).sides

-- a venue shows nothing of a symbol after a withdrawal on both sides
abbrev pub without : Kept → Change → Kept
without kept (change.Quote part sym state bid offer) = put kept part sym no_sides
without kept (change.State part sym state) = kept
without kept (change.Withdraw part) = kept
without kept (change.Lot sym lot) = kept

-- ---- what is kept of a roster's symbols

-- for how many symbols there is room, and all sides, by the symbol and then by the venue
pub record Stored : Type 0 where
  pub symbols : ℕ
  pub all : List Sides

-- what each venue shows of each symbol
abbrev pub kept_in : List Sides → Kept
kept_in all part sym =
    if nat_lt part MOST_PARTICIPANTS then unwrap_or (slice_get all (sym * MOST_PARTICIPANTS + part)) no_sides else no_sides

-- what is kept is what each venue shows of each symbol
abbrev pub IsKept : Stored → Kept → Type 0
IsKept stored kept = (part sym : ℕ) → kept_in stored.all part sym ≡ kept part sym
