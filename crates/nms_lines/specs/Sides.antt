-- A side of a quotation: its price field and its shares field. This product's own rule.
use Rattle.std.specs.Prelude.{ℕ, ◌+◌, ◌==◌, ◌&&◌, ◌||◌, not, Bool, List, codes, length, Option, Some, None, Result, Ok}
use Rattle.std.specs.Prelude.{if◌then◌else◌}
use Rattle.std.specs.Option.{option_or}
use Rattle.nms_units.specs.Price.{price_number}
use Rattle.nms_quote.specs.Content.{Content}
use Rattle.nms_quote.specs.declared.side_quote.Side.{Side}
use Rattle.nms_quote.specs.declared.side_quote.Side.TheVariants.{Bid, Offer}
use Rattle.nms_lines.specs.Faults.{◌>>=◌, refuse_at, wrong_at}
use Rattle.nms_lines.specs.Layout.{Record, field}
use Rattle.nms_lines.specs.Numbers.{above_zero, is_there, is_zero, shares_number}
use Rattle.nms_lines.specs.declared.line_fault.LineFault.TheVariants as fault
use Rattle.nms_lines.specs.declared.line_fault.PlacedFault.{PlacedFault}

-- a field with nothing in it
abbrev pub is_empty : List ℕ → Bool
is_empty text = length text == 0

-- no price, or zero next to shares that do not read as 0
abbrev pub is_unfit : Option ℕ → Option ℕ → Bool
is_unfit price shares = not (is_there price) || (is_zero price && not (is_zero shares))

-- a price that is there has the form; it may be zero only next to shares that read as 0
abbrev pub is_bad_price : List ℕ → List ℕ → Bool
is_bad_price price shares = not (is_empty price) && is_unfit (price_number price) (shares_number shares)

-- shares that are there have the form
abbrev pub is_bad_shares : List ℕ → Bool
is_bad_shares shares = not (is_empty shares) && not (is_there (shares_number shares))

-- one of the two is there without the other
abbrev pub is_half : List ℕ → List ℕ → Bool
is_half price shares = (is_empty price && not (is_empty shares)) || (not (is_empty price) && is_empty shares)

-- the one that is empty then, of a side whose price is after n fields: the price, or the shares after it
abbrev pub half_at : ℕ → List ℕ → List ℕ → Option ℕ
half_at before price shares = if is_half price shares then Some (if is_empty price then before else before + 1) else None

-- a quote, if both are there
abbrev pub content_from : Option ℕ → Option ℕ → Option Content
content_from None shares = None
content_from (Some price) None = None
content_from (Some price) (Some shares) = Some (record { price = price; shares = shares })

-- what a side without a fault says: nothing if both fields are empty or the shares are 0
abbrev pub side_content : List ℕ → List ℕ → Option Content
side_content price shares = content_from (above_zero (price_number price)) (above_zero (shares_number shares))

-- the price that is not of the form: the bid's, or else the offer's
abbrev pub bad_price_at : Record → Option ℕ
bad_price_at fields =
    option_or (wrong_at 4 (is_bad_price (field fields 4) (field fields 5))) (wrong_at 6 (is_bad_price (field fields 6) (field fields 7)))

-- the shares that are not of the form: the bid's, or else the offer's
abbrev pub bad_shares_at : Record → Option ℕ
bad_shares_at fields = option_or (wrong_at 5 (is_bad_shares (field fields 5))) (wrong_at 7 (is_bad_shares (field fields 7)))

-- the field that half a side lacks: the bid's, or else the offer's
abbrev pub half_side_at : Record → Option ℕ
half_side_at fields = option_or (half_at 4 (field fields 4) (field fields 5)) (half_at 6 (field fields 6) (field fields 7))

-- both sides: a fault of a price comes before a fault of shares, which comes before half a side
abbrev pub sides_in : Record → Result (Option Content × Option Content) PlacedFault
sides_in fields = do
  prices ← refuse_at fault.BadPrice (bad_price_at fields)
  shares ← refuse_at fault.BadShares (bad_shares_at fields)
  whole ← refuse_at fault.HalfSide (half_side_at fields)
  Ok (side_content (field fields 4) (field fields 5), side_content (field fields 6) (field fields 7))

-- the word for a side of the market
abbrev pub side_word : Side → List ℕ
side_word Bid = codes "BID"
side_word Offer = codes "OFFER"
