-- What is read of a mapping's document. This product's own rule.
use Rattle.std.specs.Prelude.{◌≡◌, ◌≢◌, ℕ, ◌<◌, ◌≤◌, ◌||◌, codes, Bool, true, false, List, [], length, nat_le, nat_lt}
use Rattle.std.specs.Prelude.{Option, Some, None, is_some, option_and_then, unwrap_or, if◌then◌else◌}
use Rattle.std.specs.Option.{option_map_or}
use Rattle.std.specs.Str.{bytes_eq}
use Rattle.toml.specs.Data.{Data, Members, as_str}
use Rattle.nms_units.specs.declared.TheConstants.{MOST_LOT}
use Rattle.nms_import.specs.declared.keys.Kind.{Kind}
use Rattle.nms_import.specs.declared.keys.Kind.TheVariants as kind
use Rattle.nms_import.specs.declared.mapping.Mapping.{Mapping}
use Rattle.nms_import.specs.declared.mapping.Order.TheVariants as order
use Rattle.nms_import.specs.declared.mapping.Source.{Source}
use Rattle.nms_import.specs.declared.mapping.Source.TheVariants as source
use Rattle.nms_import.specs.declared.meanings.Meanings.{Meanings}
use Rattle.nms_import.specs.declared.meanings.PriceUnit.{PriceUnit}
use Rattle.nms_import.specs.declared.meanings.PriceUnit.TheVariants as unit
use Rattle.nms_import.specs.declared.meanings.TimeForm.{TimeForm}
use Rattle.nms_import.specs.declared.meanings.TimeForm.TheVariants as form
use Rattle.nms_import.specs.declared.meanings.Zone.{Zone}
use Rattle.nms_import.specs.declared.meanings.Zone.TheVariants as zone
use Rattle.nms_import.specs.Drafts.{Doc, plain, text_at, value_at}
use Rattle.nms_import.specs.Findings.{faults_of}
use Rattle.nms_import.specs.Forms.{is_delimiter, zone_in}

-- the unit of prices that a text names
abbrev pub unit_named : List ℕ → Option PriceUnit
unit_named text =
    if bytes_eq text (codes "dollars") then Some unit.Dollars
    else (if bytes_eq text (codes "1e-4") then Some unit.TenThousandths
    else (if bytes_eq text (codes "1e-9") then Some unit.Nanodollars else None))

-- the unit of prices
abbrev pub unit_in : Doc → PriceUnit
unit_in draft = unwrap_or (option_and_then unit_named (text_at draft (codes "price") (codes "unit"))) unit.Dollars

-- the form of times that a text names
abbrev pub form_named : List ℕ → Option TimeForm
form_named text =
    if bytes_eq text (codes "HHMMSSn") then Some form.Clock
    else (if bytes_eq text (codes "seconds") then Some form.Seconds
    else (if bytes_eq text (codes "unix_ns") then Some form.UnixNanoseconds
    else (if bytes_eq text (codes "iso") then Some form.Iso
    else (if bytes_eq text (codes "HH:MM:SS") then Some form.Colons
    else (if bytes_eq text (codes "unix_us") then Some form.UnixMicroseconds
    else (if bytes_eq text (codes "unix_ms") then Some form.UnixMilliseconds else None))))))

-- the form of times
abbrev pub form_in : Doc → TimeForm
form_in draft = unwrap_or (option_and_then form_named (text_at draft (codes "time") (codes "form"))) form.Clock

-- times are moved on by the seconds of an offset
abbrev pub moved_by : List ℕ → Zone
moved_by text = zone.Moved (unwrap_or (zone_in text) 0)

-- how times are moved: to the clock of the zone that is named, else by the offset, if there is one
abbrev pub is_new_york : List ℕ → Bool
is_new_york text = bytes_eq text (codes "America/New_York")

abbrev pub zone_of : Doc → Zone
zone_of draft =
    if option_map_or is_new_york (text_at draft (codes "time") (codes "zone")) false then zone.NewYork
    else option_map_or moved_by (text_at draft (codes "time") (codes "zone_offset")) zone.Unsaid

-- by less than a day
abbrev pub is_in_a_day : Zone → Bool
is_in_a_day zone.Unsaid = true
is_in_a_day (zone.Moved seconds) = nat_lt seconds 86400
is_in_a_day zone.NewYork = true

-- a mapping whose kind is misspelt: its rows have one side each if it has a column of sizes
abbrev pub kind_meant : Doc → Kind
kind_meant draft = if is_some (value_at draft (codes "column") (codes "size")) then kind.Sides else kind.Quotes

-- a mapping of quotes whose rows have one side each, if its document says so
abbrev pub kind_named : Doc → List ℕ → Kind
kind_named draft text =
    if bytes_eq text (codes "sides") then kind.Sides
    else (if bytes_eq text (codes "quotes") || bytes_eq text (codes "trades") then kind.Quotes else kind_meant draft)

abbrev pub kind_by : Doc → Data → Kind
kind_by draft value = option_map_or (kind_named draft) (as_str value) (kind_meant draft)

abbrev pub kind_of_quotes : Doc → Kind
kind_of_quotes draft = option_map_or (kind_by draft) (value_at draft (codes "file") (codes "kind")) kind.Quotes

abbrev pub kind_said : Members → Kind
kind_said document = kind_of_quotes (plain kind.Quotes document)

abbrev pub is_of_sides : Kind → Bool
is_of_sides kind.Quotes = false
is_of_sides kind.Sides = true
is_of_sides kind.Trades = false
is_of_sides kind.Bests = false

-- what mappings of quotes and of trades both say: a zone is less than a day, and there are no words of quotes alone
pub record AreReadOf (draft : Doc) (common : Meanings) : Type 0 where
  pub unit : common.price_unit ≡ unit_in draft
  pub form : common.time_form ≡ form_in draft
  pub zone : common.zone ≡ zone_of draft
  pub day : is_in_a_day common.zone ≡ true
  pub size_unit : common.size_unit ≡ 1
  pub no_price : common.no_price.items ≡ []
  pub said : common.said.items ≡ []
  pub sides : common.sides ≡ None

-- what a mapping of quotes says: a unit of size has 1 to 1,000 shares
pub record AreMeaningsOf (draft : Doc) (meanings : Meanings) : Type 0 where
  pub unit : meanings.price_unit ≡ unit_in draft
  pub form : meanings.time_form ≡ form_in draft
  pub zone : meanings.zone ≡ zone_of draft
  pub day : is_in_a_day meanings.zone ≡ true
  pub some_shares : 0 < meanings.size_unit
  pub few_shares : meanings.size_unit ≤ MOST_LOT
  pub sides : is_some meanings.sides ≡ is_of_sides draft.kind

-- the mapping of a document that has no fault; national bests are found by their times
pub record IsMappingOf (draft : Doc) (mapping : Mapping) : Type 0 where
  pub faultless : faults_of draft ≡ []
  pub timed : draft.kind ≡ kind.Bests → mapping.order ≢ order.Free
  pub delimiter : is_delimiter mapping.file.delimiter ≡ true
  pub meanings : AreMeaningsOf draft mapping.meanings
  pub offers : is_some mapping.offers ≡ is_of_sides draft.kind

-- the empty text in every row
abbrev pub is_nothing : Source → Bool
is_nothing (source.Place place) = false
is_nothing (source.Named name) = false
is_nothing (source.Fixed text) = nat_le (length text.items) 0
is_nothing (source.PlaceBits place bits) = false
is_nothing (source.NamedBits name bits) = false

-- a column that has a number is one of the first 1,000
abbrev pub is_within : Source → Bool
is_within (source.Place place) = nat_lt place 1000
is_within (source.Named name) = true
is_within (source.Fixed text) = true
is_within (source.PlaceBits place bits) = nat_lt place 1000
is_within (source.NamedBits name bits) = true
