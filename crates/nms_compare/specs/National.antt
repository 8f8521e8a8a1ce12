-- The national best bid and offer that a row of a vendor's file says (17 CFR 242.600, "national best bid and national
-- best offer"). How its texts are read is the rule of `import`.
use Rattle.std.specs.Prelude.{ℕ, ◌≢◌, Option, Some, None, option_map, Result}
use Rattle.nms_quote.specs.Content.{Content}
use Rattle.nms_quote.specs.Roster.{Listing}
use Rattle.nms_quote.specs.declared.change.Change.{Change}
use Rattle.nms_quote.specs.declared.change.Change.TheVariants as change
use Rattle.nms_lines.specs.Layout.{Record}
use Rattle.toml.specs.Data.{Members}
use Rattle.nms_import.specs.Drafts.{plain}
use Rattle.nms_import.specs.Readings.{IsMappingOf}
use Rattle.nms_import.specs.Mapping.{◌>>=◌, entry_of, or_stop}
use Rattle.nms_import.specs.declared.cause.Cause.{Cause}
use Rattle.nms_import.specs.declared.cause.Cause.TheVariants as cause
use Rattle.nms_import.specs.declared.column.Columns.{Columns}
use Rattle.nms_import.specs.declared.keys.Kind.TheVariants as kind
use Rattle.nms_import.specs.declared.mapping.Mapping.{Mapping}
use Rattle.nms_import.specs.declared.mapping.Order.TheVariants as order
use Rattle.nms_import.specs.declared.meanings.Meanings.{Meanings}
use Rattle.nms_compare.specs.declared.national.Best.{Best}
use Rattle.nms_compare.specs.declared.national.National.{National}

-- a side's price and shares, quoted by a participant
abbrev pub best_with : ℕ → Option Content → Option Best
best_with part side = option_map (λ content. record { part = part; price = content.price; shares = content.shares }) side

-- the offer of a quotation
abbrev pub offer_in : Change → Option Best
offer_in (change.Quote part sym state bid offer) = best_with part offer
offer_in (change.State part sym state) = None
offer_in (change.Withdraw part) = None
offer_in (change.Lot sym lot) = None

-- the bid of one quotation with the offer of another one
abbrev pub national_in : ℕ → (bids offers : Change) → Option National
national_in time (change.Quote part sym state bid offer) offers =
    Some (record { time = time; sym = sym; bid = best_with part bid; offer = offer_in offers })
national_in time (change.State part sym state) offers = None
national_in time (change.Withdraw part) offers = None
national_in time (change.Lot sym lot) offers = None

-- a row: the bid of the quotation that `import` makes of it if the participant is that of the best bid, and the offer of
-- the one that it makes if the participant is that of the best offer. A row makes nothing but quotations
abbrev pub national_of : (bids offers : Columns) → Meanings → Listing → Record → Result National Cause
national_of bids offers mapping roster row = do
  bid ← entry_of bids mapping roster row
  offer ← entry_of offers mapping roster row
  or_stop (national_in bid.time bid.change offer.change) cause.TooFewColumns

-- a mapping of national bests, as two mappings of `import`: in one the venue of the best bid is the participant, in the other
-- that of the best offer
pub record BySide : Type 0 where
  pub bids : Mapping
  pub offers : Mapping

-- the mapping of a document that has no fault, of both sides; its rows are found by their times
pub record IsNationalOf (document : Members) (mapping : BySide) : Type 0 where
  pub bids : IsMappingOf (plain kind.Bests document) mapping.bids
  pub offers : IsMappingOf (plain kind.Bests document) mapping.offers
  pub timed : mapping.bids.order ≢ order.Free
