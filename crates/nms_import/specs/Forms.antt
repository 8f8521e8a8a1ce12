-- Which values are right at a key of a mapping. This product's own rule.
use Rattle.std.specs.Prelude.{ℕ, pos, codes, Bool, true, false, not, ◌&&◌, ◌||◌, ◌==◌, ◌+◌, ◌-◌, ◌*◌, ◌/◌, ◌%◌, List, [], ◌∷◌}
use Rattle.std.specs.Prelude.{length, nat_eq, nat_lt, Option, Some, None, is_some, option_and_then, unwrap_or, if◌then◌else◌}
use Rattle.std.specs.Int.RustNames.{int_le}
use Rattle.std.specs.List.{list_any}
use Rattle.std.specs.Option.{option_map_or}
use Rattle.std.specs.Str.{bytes_eq}
use Rattle.toml.specs.Data.{Data, Members, as_bool, as_integer, as_str, as_table, get_member}
use Rattle.nms_units.specs.Digits.{number_in}
use Rattle.nms_units.specs.declared.TheConstants.{MOST_LOT}
use Rattle.nms_import.specs.declared.keys.Form.{Form}
use Rattle.nms_import.specs.declared.keys.Form.TheVariants as form
use Rattle.nms_import.specs.declared.keys.TheConstants.{A_NAME, A_NUMBER}
use Rattle.nms_import.specs.declared.right.TheConstants.{MOST_BITS, MOST_COLUMNS}
use Rattle.nms_import.specs.Drafts.{Doc, names_in, value_at}
use Rattle.nms_import.specs.Keys.{Key}

-- one of some words
abbrev pub is_among : List (List ℕ) → Data → Bool
is_among words value = option_map_or (λ text. list_any (λ word. bytes_eq word text) words) (as_str value) false

-- a byte between fields: not a double quote, and not the end of a line
abbrev pub is_delimiter : ℕ → Bool
is_delimiter byte = not (byte == 34) && not (byte == 13) && not (byte == 10)

abbrev pub is_one_delimiter : List ℕ → Bool
is_one_delimiter [] = false
is_one_delimiter (byte ∷ []) = is_delimiter byte
is_one_delimiter (byte ∷ other ∷ more) = false

abbrev pub is_byte_between : Data → Bool
is_byte_between value = option_map_or is_one_delimiter (as_str value) false

-- a number from 1 to `most`
abbrev pub is_number : (most : ℕ) → Data → Bool
is_number most value = option_map_or (λ n. int_le (pos 1) n && int_le n (pos most)) (as_integer value) false

-- the number of a field of a last line, which the key `end` names
abbrev pub is_count : Doc → Data → Bool
is_count draft value = is_number MOST_COLUMNS value && is_some (value_at draft (codes "file") (codes "end"))

-- whether the first line names the columns; a value that is neither true nor false hides no fault of them
abbrev pub has_header : Doc → Bool
has_header draft = option_map_or (λ value. unwrap_or (as_bool value) true) (value_at draft (codes "file") (codes "header")) false

-- what is expected of a column
abbrev pub column_expected : Doc → List ℕ
column_expected draft = if has_header draft then A_NAME.now else A_NUMBER.now

-- the text of a table { fixed = "TEXT" }
abbrev pub fixed_in : Members → Option (List ℕ)
fixed_in whole =
    if nat_eq (length (names_in whole)) 1 then option_and_then as_str (get_member (codes "fixed") whole) else None

abbrev pub fixed_text : Data → Option (List ℕ)
fixed_text value = option_and_then fixed_in (as_table value)

-- where a column is: its number, or its name if there is a header
abbrev pub is_place : (header : Bool) → Data → Bool
is_place header value = if is_some (as_str value) then header else is_number MOST_COLUMNS value

-- a table { column = COLUMN, bits = NUMBER }
abbrev pub are_bits_in : (header : Bool) → Members → Bool
are_bits_in header whole =
    nat_eq (length (names_in whole)) 2 && option_map_or (is_place header) (get_member (codes "column") whole) false
    && option_map_or (is_number MOST_BITS) (get_member (codes "bits") whole) false

abbrev pub are_bits : (header : Bool) → Data → Bool
are_bits header value = option_map_or (are_bits_in header) (as_table value) false

-- a column: its place, or a table with the text for it, or with the bits that are read
abbrev pub is_column : (header : Bool) → Data → Bool
is_column header value = is_place header value || is_some (fixed_text value) || are_bits header value

-- whether a table has one of the keys that a key's words name
abbrev pub has_named : Doc → Key → Bool
has_named draft key = list_any (λ word. is_some (value_at draft key.table word)) key.words

-- the shares of a lot, or the setup's lot of each symbol
abbrev pub is_lot : Data → Bool
is_lot value = is_number MOST_LOT value || option_map_or (λ text. bytes_eq text (codes "setup")) (as_str value) false

-- shares, without a lot; or lots, with one
abbrev pub is_unit : (lot : Option Data) → List ℕ → Bool
is_unit lot text =
    (bytes_eq text (codes "shares") && not (option_map_or is_lot lot false))
    || (bytes_eq text (codes "lots") && is_some lot)

abbrev pub is_size_unit : Doc → Data → Bool
is_size_unit draft value = option_map_or (is_unit (value_at draft (codes "size") (codes "lot"))) (as_str value) false

-- whether times have a date, and so a zone; a form that is none hides no fault of the zone
abbrev pub is_dated : List ℕ → Bool
is_dated text =
    not (bytes_eq text (codes "HHMMSSn")) && not (bytes_eq text (codes "HH:MM:SS")) && not (bytes_eq text (codes "seconds"))

abbrev pub has_dates : Doc → Bool
has_dates draft =
    option_map_or (λ value. option_map_or is_dated (as_str value) true) (value_at draft (codes "time") (codes "form")) false

-- the seconds that a sign and HHMM move a time on, over midnight
abbrev pub signed : (sign seconds : ℕ) → Option ℕ
signed sign seconds =
    if sign == 43 then Some seconds else (if sign == 45 then Some ((86400 - seconds) % 86400) else None)

abbrev pub zone_at : (sign number : ℕ) → Option ℕ
zone_at sign number =
    if nat_lt 23 (number / 100) || nat_lt 59 (number % 100) then None
    else signed sign (number / 100 * 3600 + number % 100 * 60)

abbrev pub zone_in : List ℕ → Option ℕ
zone_in [] = None
zone_in (sign ∷ digits) = if nat_eq (length digits) 4 then option_and_then (zone_at sign) (number_in 4 digits) else None

abbrev pub is_zone : Data → Bool
is_zone value = option_map_or (λ text. is_some (zone_in text)) (as_str value) false

-- whether there is an offset of times
abbrev pub has_offset : Doc → Bool
has_offset draft = is_some (value_at draft (codes "time") (codes "zone_offset"))

-- a value of a form that is no list
abbrev pub is_of_form : Form → Doc → Key → Data → Bool
is_of_form form.Table draft key value = is_some (as_table value)
is_of_form form.Choice draft key value = is_among key.words value
is_of_form form.Delimiter draft key value = is_byte_between value
is_of_form form.Flag draft key value = is_some (as_bool value)
is_of_form form.Text draft key value = is_some (as_str value)
is_of_form form.Count draft key value = is_count draft value
is_of_form form.Column draft key value = is_column (has_header draft) value
is_of_form form.Columns draft key value = is_column (has_header draft) value
is_of_form form.Instead draft key value = is_column (has_header draft) value && not (has_named draft key)
is_of_form form.SizeUnit draft key value = is_size_unit draft value
is_of_form form.Lot draft key value = is_lot value
is_of_form form.Zone draft key value = has_dates draft && is_zone value
is_of_form form.ZoneName draft key value = has_dates draft && is_among key.words value && not (has_offset draft)
is_of_form _ draft key value = false

abbrev pub is_right : Doc → Key → Data → Bool
is_right draft key value = is_of_form key.form draft key value
