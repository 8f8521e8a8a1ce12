-- Where a mapping's columns are in a file, by the file's first row. This product's own rule.
use Rattle.std.specs.Prelude.{ℕ, ◌≡◌, ◌+◌, ◌==◌, List, Option, Some, None, option_and_then, if◌then◌else◌}
use Rattle.csv.specs.Records.{field_at}
use Rattle.nms_lines.specs.Layout.{Record}
use Rattle.nms_import.specs.declared.column.Column.{Column}
use Rattle.nms_import.specs.declared.column.Column.TheVariants as column
use Rattle.nms_import.specs.declared.column.Columns.{Columns}
use Rattle.nms_import.specs.declared.column.RowColumns.{RowColumns}
use Rattle.nms_import.specs.declared.column.RowColumns.TheVariants as rows
use Rattle.nms_import.specs.declared.mapping.Source.{Source}
use Rattle.nms_import.specs.declared.mapping.Source.TheVariants as source
use Rattle.nms_import.specs.declared.mapping.Sources.{Sources}

-- the place of a column in each row
abbrev pub column_place : Column → Option ℕ
column_place (column.At place) = Some place
column_place (column.Fixed text) = None
column_place (column.Bits place bits) = None

-- the place of a column of which some bits are read
abbrev pub bits_place : (bits : ℕ) → Column → Option ℕ
bits_place bits (column.At place) = None
bits_place bits (column.Fixed text) = None
bits_place bits (column.Bits place own) = if own == bits then Some place else None

-- the text that a column has in every row
abbrev pub column_fixed : Column → Option (List ℕ)
column_fixed (column.At place) = None
column_fixed (column.Fixed text) = Some text.items
column_fixed (column.Bits place bits) = None

-- how many columns a row needs to have this one
abbrev pub columns_needed : Column → ℕ
columns_needed (column.At place) = place + 1
columns_needed (column.Fixed text) = 0
columns_needed (column.Bits place bits) = place + 1

-- a column is at its number, or where the first row has its name, or is the text that the mapping fixes; so does one of which
-- some bits are read
abbrev pub IsPlaced : Source → (names : Record) → Column → Type 0
IsPlaced (source.Place place) names placed = column_place placed ≡ Some place
IsPlaced (source.Named name) names placed = option_and_then (field_at names) (column_place placed) ≡ Some name.items
IsPlaced (source.Fixed text) names placed = column_fixed placed ≡ Some text.items
IsPlaced (source.PlaceBits place bits) names placed = bits_place bits placed ≡ Some place
IsPlaced (source.NamedBits name bits) names placed = option_and_then (field_at names) (bits_place bits placed) ≡ Some name.items

-- each column of which a mapping says where it is, is placed
pub record ArePlaced (sources : Sources) (names : Record) (columns : Columns) : Type 0 where
  pub time : IsPlaced sources.time names columns.time
  pub participant : IsPlaced sources.participant names columns.participant
  pub symbol : IsPlaced sources.symbol names columns.symbol
  pub bid : IsPlaced sources.bid names columns.bid
  pub bid_size : IsPlaced sources.bid_size names columns.bid_size
  pub offer : IsPlaced sources.offer names columns.offer
  pub offer_size : IsPlaced sources.offer_size names columns.offer_size
  pub side : IsPlaced sources.side names columns.side
  pub source : IsPlaced sources.source names columns.source
  pub condition : IsPlaced sources.condition names columns.condition
  pub skip : IsPlaced sources.skip names columns.skip

-- the columns of a file's rows are placed; if each row has one side, those of bids and those of offers
abbrev pub AreRowsPlaced : Sources → (offers : Option Sources) → (names : Record) → RowColumns → Type 0
AreRowsPlaced sources None names (rows.Both columns) = ArePlaced sources names columns
AreRowsPlaced sources None names (rows.One bids others) = ⊥
AreRowsPlaced sources (Some offers) names (rows.Both columns) = ⊥
AreRowsPlaced sources (Some offers) names (rows.One bids others) = ArePlaced sources names bids × ArePlaced offers names others
