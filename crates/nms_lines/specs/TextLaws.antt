-- The laws of texts: a text has exactly one list of records, and no field of a plan needs a quote. This product's own rule.
use Rattle.std.specs.Prelude.{ℕ, ◌≡◌, List, Some}
use Rattle.std.specs.List.{flat_map}
use Rattle.csv.specs.Writing.{default_writer, row_text}
use Rattle.nms_quote.specs.Roster.{Listing}
use Rattle.nms_quote.specs.declared.certificate.Cut.{Cut}
use Rattle.nms_quote.specs.declared.plan.Plan.{Plan}
use Rattle.nms_lines.specs.Layout.{Record}
use Rattle.nms_lines.specs.PlanText.{plan_records, plan_text}
use Rattle.nms_lines.specs.Records.{AreAllRecords}

-- a text has these records and no others
abbrev pub HasOneList : List ℕ → Type 0
HasOneList bytes =
    (records : List Record) × AreAllRecords (Some bytes) records
    × ((others : List Record) → AreAllRecords (Some bytes) others → others ≡ records)

-- records as `csv` writes them: commas, a line feed after each, quotes if a field needs them
abbrev pub csv_text : List Record → List ℕ
csv_text records = flat_map (row_text default_writer) records

-- the text of a plan is what `csv` writes of its records
abbrev pub NeedsNoQuote : Listing → Type 0
NeedsNoQuote roster = (plan : Plan) (certificate : List Cut) → plan_text roster plan certificate
    ≡ csv_text (plan_records roster plan certificate)
