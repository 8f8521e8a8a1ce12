-- What the value at each key must be, with its bounds. This product's own rule; the caps of fees are those of 17 CFR
-- 242.610(c), as adopted in 2005 or as amended in 2024.
use Rattle.std.specs.Prelude.{pos, length, Option, Some}
use Rattle.std.specs.Option.{option_map_or}
use Rattle.toml.specs.Data.{Data}
use Rattle.nms_units.specs.declared.TheConstants.{MOST_LOT}
use Rattle.nms_quote.specs.declared.TheConstants.{MOST_CHANGES, MOST_FEEDS}
use Rattle.nms_fee_book.specs.Fees.{fee_cap, rate_cap}
use Rattle.nms_fee_book.specs.declared.TheConstants.{MOST_FEE, MOST_RATE}
use Rattle.nms_fees.specs.Places.{cap_fault, count_fault, feed_fault, name_fault, range_fault}
use Rattle.nms_fees.specs.Places.{rows_in, year_fault}
use Rattle.nms_fees.specs.declared.TheConstants.{LEAST_QUEUE, MOST_DESKS, MOST_QUEUE}
use Rattle.nms_fees.specs.declared.setup_fault.SetupFault.{SetupFault}
use Rattle.nms_fees.specs.declared.setup_fault.SetupFault.TheVariants as fault
use Rattle.nms_setup_places.specs.Tables.{array_of, is_name_of, most_in}
use Rattle.nms_fees.specs.declared.choices.Choices.{Choices}
use Rattle.nms_setup_places.specs.declared.form.Form.{Form}
use Rattle.nms_setup_places.specs.declared.form.Form.TheVariants as form
use Rattle.nms_setup_places.specs.declared.known_key.KnownKey.{KnownKey}
use Rattle.nms_setup_places.specs.declared.known_key.KnownKey.TheVariants as key
use Rattle.nms_setup_places.specs.declared.setup_table.SetupArray.{SetupArray}
use Rattle.nms_setup_places.specs.declared.setup_table.SetupArray.TheVariants as array
use Rattle.nms_setup_places.specs.declared.setup_table.SetupTable.{SetupTable}

-- the form of the value at a key
abbrev pub form_of : Choices → SetupTable → KnownKey → Form
form_of choices table key.TapeLimit = form.Number (pos 1) (pos MOST_CHANGES)
form_of choices table key.Queue = form.Number (pos LEAST_QUEUE) (pos MOST_QUEUE)
form_of choices table key.Desks = form.Number (pos 1) (pos MOST_DESKS)
form_of choices table key.Caps = form.Year
form_of choices table key.Feeds = form.Number (pos 1) (pos MOST_FEEDS)
form_of choices table key.Participant = form.Rows array.Participant
form_of choices table key.Symbol = form.Rows array.Symbol
form_of choices table key.Name = form.Name (array_of table)
form_of choices table key.Feed = form.Letter choices.feeds
form_of choices table key.Fee = form.Charge MOST_FEE (fee_cap choices.caps)
form_of choices table key.Rate = form.Charge MOST_RATE (rate_cap choices.caps)
form_of choices table key.Lot = form.Number (pos 1) (pos MOST_LOT)

-- the fault of an array by itself: it is not an array, is empty, or has too many elements
abbrev pub rows_form_fault : SetupArray → Data → Option SetupFault
rows_form_fault array value =
    option_map_or (λ rows. count_fault (most_in array) (length rows)) (rows_in value) (Some fault.WrongType)

-- the fault of a value that must have a form
abbrev pub form_fault : Form → Data → Option SetupFault
form_fault (form.Number low high) value = range_fault low high value
form_fault form.Year value = year_fault value
form_fault (form.Charge most cap) value = cap_fault most cap value
form_fault (form.Letter feeds) value = feed_fault feeds value
form_fault (form.Name array) value = name_fault (is_name_of array) value
form_fault (form.Rows array) value = rows_form_fault array value
