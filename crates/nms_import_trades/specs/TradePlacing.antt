-- The places of the columns of a mapping of trades in a file, by the file's first row. This product's own rule.
use Rattle.std.specs.Prelude.{ℕ, max, fold, List, [], ◌∷◌, map, Option, Some, None}
use Rattle.std.specs.Option.{option_map_or}
use Rattle.nms_lines.specs.Layout.{Record}
use Rattle.nms_import.specs.Placing.{IsPlaced, columns_needed}
use Rattle.nms_import.specs.declared.column.Column.{Column}
use Rattle.nms_import.specs.declared.mapping.Source.{Source}
use Rattle.nms_import_trades.specs.declared.trade_columns.TradeColumns.{TradeColumns}
use Rattle.nms_import_trades.specs.declared.trade_map.TradeMapping.{TradeMapping}

-- the name of an execution has a column exactly if the mapping has one for it
abbrev pub IsIdPlaced : Option Source → (names : Record) → Option Column → Type 0
IsIdPlaced None names None = Unit {0}
IsIdPlaced None names (Some placed) = ⊥
IsIdPlaced (Some source) names None = ⊥
IsIdPlaced (Some source) names (Some placed) = IsPlaced source names placed

-- each column of a mapping is placed
pub record ArePlaced (mapping : TradeMapping) (names : Record) (columns : TradeColumns) : Type 0 where
  pub id : IsIdPlaced mapping.sources.id names columns.id
  pub time : IsPlaced mapping.sources.time names columns.time
  pub participant : IsPlaced mapping.sources.participant names columns.participant
  pub symbol : IsPlaced mapping.sources.symbol names columns.symbol
  pub price : IsPlaced mapping.sources.price names columns.price
  pub shares : IsPlaced mapping.sources.shares names columns.shares
  pub side : IsPlaced mapping.sources.side names columns.side
  pub condition : IsPlaced mapping.sources.condition names columns.condition
  pub exempt : IsPlaced mapping.sources.exempt names columns.exempt
  pub skip : IsPlaced mapping.sources.skip names columns.skip

-- the columns that each mapping has
abbrev pub columns_but_id : TradeColumns → List Column
columns_but_id columns =
    columns.time ∷ columns.participant ∷ columns.symbol ∷ columns.price ∷ columns.shares ∷ columns.side ∷ columns.condition
    ∷ columns.exempt ∷ columns.skip ∷ []

-- how many columns a row needs to have the name, if there is a column of it
abbrev pub needed_by_id : Option Column → ℕ
needed_by_id id = option_map_or columns_needed id 0

-- how many columns a row needs to have them all: the number that the last of them needs
abbrev pub width_of : TradeColumns → ℕ
width_of columns = fold max (needed_by_id columns.id) (map columns_needed (columns_but_id columns))
