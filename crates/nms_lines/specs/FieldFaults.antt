-- What is wrong with a field, apart from the two fields of a side. This product's own rule.
use Rattle.std.specs.Prelude.{◌&&◌, not, ℕ, Bool, false, List, codes, Some, is_none}
use Rattle.std.specs.Option.{option_map_or}
use Rattle.nms_units.specs.Digits.{number_in}
use Rattle.nms_units.specs.Price.{price_number}
use Rattle.nms_quote.specs.Roster.{Listing, feed_at, place_in}
use Rattle.nms_quote.specs.declared.feed.Feed.TheVariants as feed
use Rattle.nms_lines.specs.Fields.{flag_of}
use Rattle.nms_lines.specs.Layout.{Record, field, has_average, is_text}
use Rattle.nms_lines.specs.Named.{named_at}
use Rattle.nms_lines.specs.Numbers.{above_zero, below, lot_number, shares_number}
use Rattle.nms_lines.specs.Sources.{desks_of, is_foreign}
use Rattle.nms_lines.specs.declared.line.Reading.{Reading}

-- the name of a participant of another feed than the one that is read
abbrev pub is_foreign_name : Listing → Reading → List ℕ → Bool
is_foreign_name roster from name = option_map_or (λ part. is_foreign from (feed_at roster part)) (place_in roster.parts name) false

-- a round lot from another feed than the first
abbrev pub is_foreign_lot : Reading → Bool
is_foreign_lot from = is_foreign from (Some feed.A)

-- a desk that is not 1 or 2 digits, or not below the number of desks
abbrev pub is_no_desk : Reading → List ℕ → Bool
is_no_desk from text = is_none (below (desks_of from) (number_in 2 text))

-- a price of an order, a trade-through test or a round lot that is empty, not of the form, or zero
abbrev pub is_no_price : List ℕ → Bool
is_no_price text = is_none (above_zero (price_number text))

-- shares of an order that are empty, not 1 to 9 digits, or 0
abbrev pub is_no_shares : List ℕ → Bool
is_no_shares text = is_none (above_zero (shares_number text))

-- an eighth field of an order in which a name, or what is there instead of one, is not on the roster
abbrev pub has_no_name : Listing → Record → Bool
has_no_name roster fields = is_none (named_at 7 roster fields)

-- a seventh field of an order that is not the flag
abbrev pub is_no_flag : Record → Bool
is_no_flag fields = is_none (flag_of fields)

-- a third field of a round lot with a price that is not the word for an average
abbrev pub is_no_average : Record → Bool
is_no_average fields = has_average fields && not (is_text (codes "AVG") (field fields 2))

-- an average closing price that is empty, not of the form, or zero
abbrev pub is_no_average_price : Record → Bool
is_no_average_price fields = has_average fields && is_no_price (field fields 3)

-- a round lot that is not 1 to 4 digits, or not 1 to 1,000
abbrev pub is_no_lot : Record → Bool
is_no_lot fields = not (has_average fields) && is_none (lot_number (field fields 2))
