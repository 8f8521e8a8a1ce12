-- The least of a document's mistakes is the fault that it is read as: place by place, and then as one sum.
use Rattle.std.proofs.Common.{codes, ◌≡◌, ℕ, Bool, true, false, ◌||◌, List, [], ◌∷◌, ◌++◌, length, map, Option, Some, None, is_some}
use Rattle.std.proofs.Common.{option_and_then, unwrap_or, Ok, Err, if◌then◌else◌, refl, sym, ap, ap₂, ◌∙◌}
use Rattle.std.specs.Option.{option_map_or}
use Rattle.std.specs.Result.{result_err}
use Rattle.toml.specs.Data.{Data, Members, as_table, get_member}
use Rattle.toml.specs.Parse.{parse_document}
use Rattle.toml.specs.View.{table_view}
use Rattle.nms_quote.specs.Roster.{Name}
use Rattle.nms_fees.specs.Faults.{least, lesser}
use Rattle.nms_fees.specs.Places.{choices_in, count_fault, document_fault, document_findings, key_fault, participant_findings}
use Rattle.nms_fees.specs.Places.{repeat_fault, rows_in, symbol_findings}
use Rattle.nms_fees.specs.Setup.{document_reading, reading, rows_at, settings_of}
use Rattle.nms_fees.specs.declared.choices.Choices.{Choices}
use Rattle.nms_fees.specs.declared.setup_fault.SetupFault.{SetupFault}
use Rattle.nms_fees.specs.declared.setup_fault.SetupFault.TheVariants as fault
use Rattle.nms_setup_places.specs.Findings.{again_findings, array_findings, element_findings, finding_at, findings_in, findings_of}
use Rattle.nms_setup_places.specs.Findings.{key_findings, named_before, others_fault, own_fault, row_findings}
use Rattle.nms_setup_places.specs.Forms.{rows_form_fault}
use Rattle.nms_setup_places.specs.Tables.{array_key, keys_of, most_in, row_table}
use Rattle.nms_setup_places.specs.declared.finding.Spot.{Spot}
use Rattle.nms_setup_places.specs.declared.finding.Spot.TheVariants as spot
use Rattle.nms_setup_places.specs.declared.known_key.KnownKey.{KnownKey}
use Rattle.nms_setup_places.specs.declared.known_key.KnownKey.TheVariants as key
use Rattle.nms_setup_places.specs.declared.reading.Examined.TheVariants as examined
use Rattle.nms_setup_places.specs.declared.setup_table.SetupArray.{SetupArray}
use Rattle.nms_setup_places.specs.declared.setup_table.SetupArray.TheVariants as array
use Rattle.nms_setup_places.specs.declared.setup_table.SetupTable.{SetupTable}
use Rattle.nms_setup_places.specs.declared.setup_table.SetupTable.TheVariants as of
use Rattle.nms_setup_places.specs.Laws.{ReadsLeastFinding, least_of}
use Rattle.nms_setup_places.proofs.LeastLemmas.{least_of_sum, least_sum, lesser-assoc, lesser-comm, lesser-none, lesser-pairs}
use Rattle.nms_setup_places.proofs.LeastLemmas.{sum_found, sum_found-append, sum_of}
use Rattle.nms_setup_places.proofs.NamesTwice.{is_twice, twice_repeated}

-- ---- the keys of a table

at_place : (table : SetupTable) (spot : Spot) (found : Option SetupFault) → sum_found (finding_at table spot found) ≡ found
at_place table spot None = refl
at_place table spot (Some fault) = refl

-- the sum over some keys
abbrev keys_sum : Choices → SetupTable → Members → List KnownKey → Option SetupFault
keys_sum choices table entries [] = None
keys_sum choices table entries (key ∷ keys) = lesser (own_fault choices table entries key) (keys_sum choices table entries keys)

of_keys : (choices : Choices) (table : SetupTable) (entries : Members) (keys : List KnownKey)
    → sum_found (key_findings choices table entries keys) ≡ keys_sum choices table entries keys
of_keys choices table entries [] = refl
of_keys choices table entries (key ∷ keys) =
    sum_found-append (finding_at table (spot.Key key) (own_fault choices table entries key)) (key_findings choices table entries keys)
    ∙ ap (λ x. lesser x (sum_found (key_findings choices table entries keys)))
    (at_place table (spot.Key key) (own_fault choices table entries key))
    ∙ ap (lesser (own_fault choices table entries key)) (of_keys choices table entries keys)

of_table : (choices : Choices) (table : SetupTable) (entries : Members)
    → sum_found (findings_in choices table entries) ≡ lesser (others_fault table entries) (keys_sum choices table entries (keys_of table))
of_table choices table entries =
    sum_found-append (key_findings choices table entries (keys_of table)) (finding_at table spot.OtherKeys (others_fault table entries))
    ∙ ap (λ x. lesser x (sum_found (finding_at table spot.OtherKeys (others_fault table entries))))
    (of_keys choices table entries (keys_of table))
    ∙ ap (lesser (keys_sum choices table entries (keys_of table))) (at_place table spot.OtherKeys (others_fault table entries))
    ∙ lesser-comm (keys_sum choices table entries (keys_of table)) (others_fault table entries)

-- two functions of a value that agree make the same of a value that may be absent
same_map : (f g : Data → Option SetupFault) → ((value : Data) → f value ≡ g value) → (found : Option Data) (absent : Option SetupFault)
    → option_map_or f found absent ≡ option_map_or g found absent
same_map f g same None absent = refl
same_map f g same (Some value) absent = same value

-- ---- the elements of an array

-- what each place finds in a table of an array
abbrev findings_at : Choices → SetupArray → Members → List (Option SetupFault)
findings_at choices array.Participant entries = participant_findings choices entries
findings_at choices array.Symbol entries = symbol_findings entries

-- the fault of an element
abbrev element_fault : Choices → SetupArray → Data → Option SetupFault
element_fault choices array row = option_map_or (λ entries. least (findings_at choices array entries)) (as_table row) (Some fault.WrongType)

-- the fault of all elements
abbrev elements_fault : Choices → SetupArray → List Data → Option SetupFault
elements_fault choices array rows =
    least (count_fault (most_in array) (length rows) ∷ repeat_fault rows ∷ least (map (element_fault choices array) rows) ∷ [])

-- the fault of an array
abbrev value_fault : Choices → SetupArray → Data → Option SetupFault
value_fault choices array value = option_map_or (elements_fault choices array) (rows_in value) (Some fault.WrongType)

of_row_table : (choices : Choices) (array : SetupArray) (place : ℕ) (entries : Members)
    → sum_found (findings_in choices (row_table array place) entries) ≡ least (findings_at choices array entries)
of_row_table choices array.Participant place entries =
    of_table choices (of.Participant place) entries
    ∙ ap (lesser (others_fault (of.Participant place) entries))
    (ap₂ lesser (same_map _ _ (λ value. refl) (get_member (codes "name") entries) (Some fault.Missing))
    (ap₂ lesser (same_map _ _ (λ value. refl) (get_member (codes "feed") entries) (Some fault.Missing))
    (ap₂ lesser (same_map _ _ (λ value. refl) (get_member (codes "fee") entries) (Some fault.Missing))
    (ap (λ x. lesser x None) (same_map _ _ (λ value. refl) (get_member (codes "rate") entries) (Some fault.Missing))))))
    ∙ sym (least_sum (participant_findings choices entries))
of_row_table choices array.Symbol place entries =
    of_table choices (of.Symbol place) entries
    ∙ ap (lesser (others_fault (of.Symbol place) entries))
    (ap₂ lesser (same_map _ _ (λ value. refl) (get_member (codes "name") entries) (Some fault.Missing))
    (ap (λ x. lesser x None) (same_map _ _ (λ value. refl) (get_member (codes "lot") entries) (Some fault.Missing))))
    ∙ sym (least_sum (symbol_findings entries))

of_element : (choices : Choices) (array : SetupArray) (place : ℕ) (row : Data)
    → sum_found (element_findings choices (row_table array place) row) ≡ element_fault choices array row
of_element choices array place row = by (as_table row)
  where
    by : (found : Option Members)
        → sum_found (option_map_or (findings_in choices (row_table array place)) found
        (finding_at (row_table array place) spot.Element (Some fault.WrongType)))
        ≡ option_map_or (λ entries. least (findings_at choices array entries)) found (Some fault.WrongType)
    by None = refl
    by (Some entries) = of_row_table choices array place entries

abbrev bad_name_if : Bool → Option SetupFault
bad_name_if b = if b then Some fault.BadName else None

of_again : (table : SetupTable) (before : List Data) (row : Data)
    → sum_found (again_findings table before row) ≡ bad_name_if (is_some (named_before before row))
of_again table before row = by (named_before before row)
  where
    by : (found : Option ℕ)
        → sum_found (option_map_or (λ first. finding_at table (spot.NameOf first) (Some fault.BadName)) found [])
        ≡ bad_name_if (is_some found)
    by None = refl
    by (Some first) = refl

either_bad : (a b : Bool) → lesser (bad_name_if a) (bad_name_if b) ≡ bad_name_if (a || b)
either_bad true true = refl
either_bad true false = refl
either_bad false b = refl

abbrev rows_sum : Choices → SetupArray → List Data → Option SetupFault
rows_sum choices array rows = sum_of (map (element_fault choices array) rows)

-- one element: whether its name was there before, and its own faults
abbrev again_at : List Data → Data → Option SetupFault
again_at before row = bad_name_if (is_some (named_before before row))

of_row : (choices : Choices) (array : SetupArray) (before : List Data) (row : Data)
    → sum_found (row_findings choices array before row) ≡ lesser (again_at before row) (element_fault choices array row)
of_row choices array before row =
    sum_found-append (element_findings choices (row_table array (length before)) row)
    (again_findings (row_table array (length before)) before row)
    ∙ ap (λ x. lesser x (sum_found (again_findings (row_table array (length before)) before row)))
    (of_element choices array (length before) row)
    ∙ ap (lesser (element_fault choices array row)) (of_again (row_table array (length before)) before row)
    ∙ lesser-comm (element_fault choices array row) (again_at before row)

of_rows : (choices : Choices) (array : SetupArray) (before rows : List Data)
    → sum_found (array_findings choices array before rows) ≡ lesser (bad_name_if (is_twice before rows)) (rows_sum choices array rows)
of_rows choices array before [] = refl
of_rows choices array before (row ∷ rows) =
    sum_found-append (row_findings choices array before row) (array_findings choices array (before ++ row ∷ []) rows)
    ∙ ap (λ x. lesser x (sum_found (array_findings choices array (before ++ row ∷ []) rows))) (of_row choices array before row)
    ∙ ap (lesser (lesser (again_at before row) (element_fault choices array row)))
    (of_rows choices array (before ++ row ∷ []) rows)
    ∙ lesser-pairs (again_at before row) (element_fault choices array row)
    (bad_name_if (is_twice (before ++ row ∷ []) rows)) (rows_sum choices array rows)
    ∙ ap (λ x. lesser x (lesser (element_fault choices array row) (rows_sum choices array rows)))
    (either_bad (is_some (named_before before row)) (is_twice (before ++ row ∷ []) rows))

-- all elements of an array: a name twice, and the faults of each
of_array : (choices : Choices) (array : SetupArray) (rows : List Data)
    → sum_found (array_findings choices array [] rows) ≡ lesser (repeat_fault rows) (least (map (element_fault choices array) rows))
of_array choices array rows = of_rows choices array [] rows
    ∙ ap (λ b. lesser (bad_name_if b) (rows_sum choices array rows)) (twice_repeated rows)
    ∙ ap (lesser (repeat_fault rows)) (sym (least_sum (map (element_fault choices array) rows)))

-- the value of an array with its elements
abbrev array_name : SetupArray → Name
array_name array.Participant = codes "participant"
array_name array.Symbol = codes "symbol"

of_counted : (choices : Choices) (array : SetupArray) (rows : List Data) (count : Option SetupFault)
    → lesser count (sum_found (array_findings choices array [] rows))
    ≡ lesser (lesser count (repeat_fault rows)) (least (map (element_fault choices array) rows))
of_counted choices array rows count = ap (lesser count) (of_array choices array rows)
    ∙ sym (lesser-assoc count (repeat_fault rows) (least (map (element_fault choices array) rows)))

of_array_key : (choices : Choices) (array : SetupArray) (found : Option Data)
    → lesser (option_map_or (rows_form_fault array) found (Some fault.Missing))
    (sum_found (array_findings choices array [] (unwrap_or (option_and_then rows_in found) [])))
    ≡ option_map_or (value_fault choices array) found (Some fault.Missing)
of_array_key choices rows_of None = refl
of_array_key choices rows_of (Some value) = by rows_of (rows_in value)
  where
    by : (rows_of : SetupArray) (found : Option (List Data))
        → lesser (option_map_or (λ rows. count_fault (most_in rows_of) (length rows)) found (Some fault.WrongType))
        (sum_found (array_findings choices rows_of [] (unwrap_or found [])))
        ≡ option_map_or (elements_fault choices rows_of) found (Some fault.WrongType)
    by rows_of None = refl
    by array.Participant (Some rows) = of_counted choices array.Participant rows (count_fault (most_in array.Participant) (length rows))
    by array.Symbol (Some rows) = of_counted choices array.Symbol rows (count_fault (most_in array.Symbol) (length rows))

-- ---- the complete document

pull : (a k y z : Option SetupFault) → lesser k y ≡ z → lesser (lesser a k) y ≡ lesser a z
pull a k y z e = lesser-assoc a k y ∙ ap (lesser a) e

-- the faults of the elements go to the faults of their arrays
elements_last : (others limit queue desks caps feeds parts syms part_rows sym_rows : Option SetupFault)
    → lesser (lesser others (lesser limit (lesser queue (lesser desks (lesser caps (lesser feeds (lesser parts (lesser syms None))))))))
    (lesser part_rows sym_rows)
    ≡ lesser others (lesser limit (lesser queue (lesser desks (lesser caps (lesser feeds
    (lesser (lesser parts part_rows) (lesser (lesser syms sym_rows) None)))))))
elements_last others limit queue desks caps feeds parts syms part_rows sym_rows =
    pull others _ _ _ (pull limit _ _ _ (pull queue _ _ _ (pull desks _ _ _ (pull caps _ _ _ (pull feeds _ _ _
    (lesser-pairs parts (lesser syms None) part_rows sym_rows
    ∙ ap (lesser (lesser parts part_rows)) (ap (λ x. lesser x sym_rows) (lesser-none syms) ∙ sym (lesser-none (lesser syms sym_rows)))))))))

module _ (document : Members) where
  abbrev choices : Choices
  choices = choices_in document

  abbrev rows_found : SetupArray → Option SetupFault
  rows_found array = sum_found (array_findings choices array [] (rows_at (array_name array) document))

  split : sum_found (findings_of document)
      ≡ lesser (lesser (others_fault of.Top document) (keys_sum choices of.Top document (keys_of of.Top)))
      (lesser (rows_found array.Participant) (rows_found array.Symbol))
  split = sum_found-append (findings_in choices of.Top document)
      (array_findings choices array.Participant [] (rows_at (codes "participant") document)
      ++ array_findings choices array.Symbol [] (rows_at (codes "symbol") document))
      ∙ ap (λ x. lesser x (sum_found (array_findings choices array.Participant [] (rows_at (codes "participant") document)
      ++ array_findings choices array.Symbol [] (rows_at (codes "symbol") document)))) (of_table choices of.Top document)
      ∙ ap (lesser (lesser (others_fault of.Top document) (keys_sum choices of.Top document (keys_of of.Top))))
      (sum_found-append (array_findings choices array.Participant [] (rows_at (codes "participant") document))
      (array_findings choices array.Symbol [] (rows_at (codes "symbol") document)))

  abbrev own : KnownKey → Option SetupFault
  own key = own_fault choices of.Top document key

  array_same : (array : SetupArray) → lesser (own (array_key array)) (rows_found array)
      ≡ key_fault (value_fault choices array) (array_name array) document
  array_same array.Participant =
      ap (λ x. lesser x (rows_found array.Participant))
      (same_map _ (rows_form_fault array.Participant) (λ value. refl) (get_member (codes "participant") document) (Some fault.Missing))
      ∙ of_array_key choices array.Participant (get_member (codes "participant") document)
  array_same array.Symbol =
      ap (λ x. lesser x (rows_found array.Symbol))
      (same_map _ (rows_form_fault array.Symbol) (λ value. refl) (get_member (codes "symbol") document) (Some fault.Missing))
      ∙ of_array_key choices array.Symbol (get_member (codes "symbol") document)

  each_place : lesser (others_fault of.Top document) (lesser (own key.TapeLimit) (lesser (own key.Queue) (lesser (own key.Desks)
      (lesser (own key.Caps) (lesser (own key.Feeds)
      (lesser (lesser (own key.Participant) (rows_found array.Participant))
      (lesser (lesser (own key.Symbol) (rows_found array.Symbol)) None)))))))
      ≡ sum_of (document_findings document)
  each_place = ap (lesser (others_fault of.Top document))
      (ap₂ lesser (same_map _ _ (λ value. refl) (get_member (codes "tape_limit") document) (Some fault.Missing))
      (ap₂ lesser (same_map _ _ (λ value. refl) (get_member (codes "queue") document) (Some fault.Missing))
      (ap₂ lesser (same_map _ _ (λ value. refl) (get_member (codes "desks") document) (Some fault.Missing))
      (ap₂ lesser (same_map _ _ (λ value. refl) (get_member (codes "caps") document) None)
      (ap₂ lesser (same_map _ _ (λ value. refl) (get_member (codes "feeds") document) None)
      (ap₂ lesser
      (array_same array.Participant ∙ same_map _ _ (λ value. refl) (get_member (codes "participant") document) (Some fault.Missing))
      (ap (λ x. lesser x None)
      (array_same array.Symbol ∙ same_map _ _ (λ value. refl) (get_member (codes "symbol") document) (Some fault.Missing)))))))))

  pub least_is_read : least_of (findings_of document) ≡ document_fault document
  least_is_read = least_of_sum (findings_of document) ∙ split
      ∙ elements_last (others_fault of.Top document) (own key.TapeLimit) (own key.Queue) (own key.Desks) (own key.Caps) (own key.Feeds)
      (own key.Participant) (own key.Symbol) (rows_found array.Participant) (rows_found array.Symbol)
      ∙ each_place ∙ sym (least_sum (document_findings document))

-- ---- the text

of_reading : (text : Name) (found : Option Members) → parse_document text ≡ found
    → result_err (reading text) ≡ option_map_or document_fault found (Some fault.NotToml)
of_reading text found e = ap (λ parsed. result_err (option_map_or document_reading parsed (Err fault.NotToml))) e ∙ by found
  where
    of_document : (document : Members) (found : Option SetupFault)
        → result_err (option_map_or (λ f. Err f) found (Ok (settings_of document))) ≡ found
    of_document document None = refl
    of_document document (Some f) = refl

    by : (found : Option Members) → result_err (option_map_or document_reading found (Err fault.NotToml))
        ≡ option_map_or document_fault found (Some fault.NotToml)
    by None = refl
    by (Some document) = of_document document (document_fault document)

pub reads_least_finding : ReadsLeastFinding
reads_least_finding text (examined.NoToml place) is = of_reading text None is.0
reads_least_finding text (examined.Document document found) is = of_reading text (Some (table_view document)) is.0
    ∙ sym (ap least_of is.1 ∙ least_is_read (table_view document))
