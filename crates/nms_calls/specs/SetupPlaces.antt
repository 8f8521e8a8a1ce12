-- Why a text is no setup, and the place, as numbers. This product's own rule.
use Rattle.std.specs.Prelude.{◌≡◌, ◌≤◌, ◌⊎◌, ℕ, nat_lt, length, List, [], ◌∷◌, Option, Some, None, if◌then◌else◌}
use Rattle.std.specs.Str.{IsUtf8}
use Rattle.toml.specs.Data.{Members}
use Rattle.toml.specs.Parse.{parse_document}
use Rattle.nms_setup_places.specs.Findings.{findings_of}
use Rattle.nms_setup_places.specs.declared.finding.Finding.{Finding}
use Rattle.nms_setup_places.specs.declared.finding.Spot.{Spot}
use Rattle.nms_setup_places.specs.declared.finding.Spot.TheVariants as spot
use Rattle.nms_setup_places.specs.declared.known_key.KnownKey.{KnownKey}
use Rattle.nms_setup_places.specs.declared.known_key.KnownKey.TheVariants as key
use Rattle.nms_setup_places.specs.declared.setup_table.SetupTable.{SetupTable}
use Rattle.nms_setup_places.specs.declared.setup_table.SetupTable.TheVariants as of
use Rattle.nms_calls.specs.Codes.{setup_code}
use Rattle.nms_calls.specs.declared.setup_place.NmsPlace.{NmsPlace}

-- a fault, unless a later one has a lesser number
abbrev pub lesser : Finding → Option Finding → Finding
lesser found None = found
lesser found (Some later) = if nat_lt (setup_code later.fault) (setup_code found.fault) then later else found

-- the first of the faults with the least number
abbrev pub least : List Finding → Option Finding
least [] = None
least (found ∷ later) = Some (lesser found (least later))

-- the number of a table: the document itself, an element of `participant`, an element of `symbol`
abbrev pub table_number : SetupTable → ℕ
table_number of.Top = 1
table_number (of.Participant place) = 2
table_number (of.Symbol place) = 3

-- the element's place in its array
abbrev pub element_of : SetupTable → ℕ
element_of of.Top = 0
element_of (of.Participant place) = place
element_of (of.Symbol place) = place

-- the number of a key
abbrev pub key_number : KnownKey → ℕ
key_number key.TapeLimit = 1
key_number key.Queue = 2
key_number key.Desks = 3
key_number key.Caps = 4
key_number key.Feeds = 5
key_number key.Participant = 6
key_number key.Symbol = 7
key_number key.Name = 8
key_number key.Feed = 9
key_number key.Fee = 10
key_number key.Rate = 11
key_number key.Lot = 12

-- the number of what is wrong there: a key or its value, an unknown key, a name that an earlier element has, no table
abbrev pub spot_number : Spot → ℕ
spot_number (spot.Key known) = key_number known
spot_number spot.OtherKeys = 13
spot_number (spot.NameOf first) = 14
spot_number spot.Element = 15

-- the place of the earlier element that has the name
abbrev pub twin_of : Spot → ℕ
twin_of (spot.Key known) = 0
twin_of spot.OtherKeys = 0
twin_of (spot.NameOf first) = first
twin_of spot.Element = 0

abbrev pub no_place : NmsPlace
no_place = record { code = 0; table = 0; spot = 0; spare = 0; element = 0; twin = 0; start = 0; end = 0 }

abbrev pub place_of : Finding → NmsPlace
place_of found =
    record {
      code = setup_code found.fault;
      table = table_number found.table;
      spot = spot_number found.spot;
      spare = 0;
      element = element_of found.table;
      twin = twin_of found.spot;
      start = 0;
      end = 0;
    }

-- the place of a fault, and all 0 if there is none
abbrev pub placed : Option Finding → NmsPlace
placed None = no_place
placed (Some found) = place_of found

-- a text that is no document: the bytes at which reading it stopped
abbrev pub no_document : ℕ → ℕ → NmsPlace
no_document start end = record { code = 1; table = 0; spot = 0; spare = 0; element = 0; twin = 0; start = start; end = end }

abbrev pub StopsIn : List ℕ → NmsPlace → Type 0
StopsIn text out = (start : ℕ) × (end : ℕ) × (start ≤ end) × (end ≤ length text) × (out ≡ no_document start end)

-- the text is not UTF-8, or is no document and the place lies in it
abbrev pub IsNoDocument : List ℕ → NmsPlace → Type 0
IsNoDocument text out = ((¬ (IsUtf8 text)) ⊎ (parse_document text ≡ None)) × StopsIn text out

-- the text is a document, with its first fault of least number
abbrev pub IsDocument : List ℕ → NmsPlace → Type 0
IsDocument text out = (document : Members) × (parse_document text ≡ Some document) × (out ≡ placed (least (findings_of document)))

-- the place of a text's fault
abbrev pub IsPlaceOf : List ℕ → NmsPlace → Type 0
IsPlaceOf text out = IsNoDocument text out ⊎ IsDocument text out
