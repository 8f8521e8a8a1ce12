-- The faults of a document, each with its place: the table, and the part of it. Each place has its own fault. This
-- product's own rule.
use Rattle.std.specs.Prelude.{codes, ℕ, suc, Bool, false, not, List, [], ◌∷◌, ◌++◌, length, Option, Some, None}
use Rattle.std.specs.Prelude.{option_and_then, if◌then◌else◌}
use Rattle.std.specs.Option.{option_map_or}
use Rattle.std.specs.Str.{bytes_eq}
use Rattle.toml.specs.Data.{Data, Members, as_table, get_member}
use Rattle.nms_quote.specs.Roster.{Name}
use Rattle.nms_fees.specs.Places.{choices_in, keys_in, name_in}
use Rattle.std.specs.List.{list_any}
use Rattle.nms_fees.specs.Setup.{rows_at}
use Rattle.nms_fees.specs.declared.setup_fault.SetupFault.{SetupFault}
use Rattle.nms_fees.specs.declared.setup_fault.SetupFault.TheVariants as fault
use Rattle.nms_setup_places.specs.Forms.{form_fault, form_of}
use Rattle.nms_setup_places.specs.Tables.{is_key_of, is_optional, keys_of, row_table, text_of}
use Rattle.nms_fees.specs.declared.choices.Choices.{Choices}
use Rattle.nms_setup_places.specs.declared.finding.Finding.{Finding}
use Rattle.nms_setup_places.specs.declared.finding.Spot.{Spot}
use Rattle.nms_setup_places.specs.declared.finding.Spot.TheVariants as spot
use Rattle.nms_setup_places.specs.declared.known_key.KnownKey.{KnownKey}
use Rattle.nms_setup_places.specs.declared.setup_table.SetupArray.{SetupArray}
use Rattle.nms_setup_places.specs.declared.setup_table.SetupArray.TheVariants as array
use Rattle.nms_setup_places.specs.declared.setup_table.SetupTable.{SetupTable}
use Rattle.nms_setup_places.specs.declared.setup_table.SetupTable.TheVariants as of

-- a fault at a place, if there is one
abbrev pub finding_at : SetupTable → Spot → Option SetupFault → List Finding
finding_at table spot None = []
finding_at table spot (Some fault) = record { table = table; spot = spot; fault = fault } ∷ []

-- a key is absent and required
abbrev pub absent_fault : KnownKey → Option SetupFault
absent_fault key = if is_optional key then None else Some fault.Missing

-- the fault of a key that may be in a table: it is absent, or its value has a fault
abbrev pub own_fault : Choices → SetupTable → Members → KnownKey → Option SetupFault
own_fault choices table members key =
    option_map_or (form_fault (form_of choices table key)) (get_member (text_of key) members) (absent_fault key)

-- the faults of some keys of a table
abbrev pub key_findings : Choices → SetupTable → Members → List KnownKey → List Finding
key_findings choices table _ [] = []
key_findings choices table members (key ∷ keys) =
    finding_at table (spot.Key key) (own_fault choices table members key) ++ key_findings choices table members keys

-- the fault of the keys that may not be in a table
abbrev pub others_fault : SetupTable → Members → Option SetupFault
others_fault table members = if list_any (λ key. not (is_key_of table key)) (keys_in members) then Some fault.UnknownKey else None

-- the faults of all keys of a table, with those that may not be there
abbrev pub findings_in : Choices → SetupTable → Members → List Finding
findings_in choices table members =
    key_findings choices table members (keys_of table) ++ finding_at table spot.OtherKeys (others_fault table members)

-- the faults of an element by itself, which must be a table
abbrev pub element_findings : Choices → SetupTable → Data → List Finding
element_findings choices table row =
    option_map_or (findings_in choices table) (as_table row) (finding_at table spot.Element (Some fault.WrongType))

-- whether an element has the name
abbrev pub is_named : Name → Data → Bool
is_named name row = option_map_or (λ other. bytes_eq other name) (name_in row) false

-- the first of some elements that has the name, by the number of elements before it
abbrev pub first_named : Name → ℕ → List Data → Option ℕ
first_named name before [] = None
first_named name before (row ∷ rows) = if is_named name row then Some before else first_named name (suc before) rows

-- the first of the elements before one that has its name
abbrev pub named_before : List Data → Data → Option ℕ
named_before before row = option_and_then (λ name. first_named name 0 before) (name_in row)

-- an earlier element has the name
abbrev pub again_findings : SetupTable → List Data → Data → List Finding
again_findings table before row =
    option_map_or (λ first. finding_at table (spot.NameOf first) (Some fault.BadName)) (named_before before row) []

-- the faults of one element, with these elements before it
abbrev pub row_findings : Choices → SetupArray → List Data → Data → List Finding
row_findings choices array before row =
    element_findings choices (row_table array (length before)) row ++ again_findings (row_table array (length before)) before row

-- the faults of the elements that follow these
abbrev pub array_findings : Choices → SetupArray → List Data → List Data → List Finding
array_findings choices array before [] = []
array_findings choices array before (row ∷ rows) =
    row_findings choices array before row ++ array_findings choices array (before ++ row ∷ []) rows

-- all faults of a document: of its keys, of each participant, of each symbol
abbrev pub findings_of : Members → List Finding
findings_of document =
    findings_in (choices_in document) of.Top document
    ++ (array_findings (choices_in document) array.Participant [] (rows_at (codes "participant") document)
    ++ array_findings (choices_in document) array.Symbol [] (rows_at (codes "symbol") document))
