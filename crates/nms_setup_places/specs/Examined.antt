-- The result of examining a text. This product's own rule.
use Rattle.std.specs.Prelude.{◌≡◌, ◌≤◌, length, Some, None}
use Rattle.toml.specs.Parse.{parse_document}
use Rattle.toml.specs.View.{table_view}
use Rattle.nms_quote.specs.Roster.{Name}
use Rattle.nms_setup_places.specs.Findings.{findings_of}
use Rattle.nms_setup_places.specs.declared.reading.Examined.{Examined}
use Rattle.nms_setup_places.specs.declared.reading.Examined.TheVariants as examined

-- not a document, with a place in the text; or the document that the text is, with all its faults
abbrev pub IsExamined : Name → Examined → Type 0
IsExamined text (examined.NoToml place) = (parse_document text ≡ None) × (place.start ≤ place.end) × (place.end ≤ length text)
IsExamined text (examined.Document document found) =
    (parse_document text ≡ Some (table_view document)) × (found.items ≡ findings_of (table_view document))
