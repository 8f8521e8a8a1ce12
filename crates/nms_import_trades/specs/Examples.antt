-- Worked examples of the definitions of mappings of trades, and of days. The right-hand sides are worked out by hand.
use Rattle.std.specs.Prelude.{◌≡◌, ℕ, codes, List, true, false, Option, Some, None, Err}
use Rattle.toml.specs.Data.{Members, member, no_members, string, table}
use Rattle.nms_import.specs.declared.column.Column.{Column}
use Rattle.nms_import.specs.declared.column.Column.TheVariants as column
use Rattle.nms_import_trades.specs.declared.trade_columns.TradeColumns.{TradeColumns}
use Rattle.nms_import_trades.specs.TradeMap.{says_trades}
use Rattle.nms_import_trades.specs.TradePlacing.{width_of}
use Rattle.nms_import_trades.specs.TradeRow.{day_after, is_other}
use Rattle.nms_import_trades.specs.declared.trade_cause.TradeCause.TheVariants as cause

-- [file] kind = ".."
abbrev pub of_kind : List ℕ → Members
of_kind kind = member (codes "file") (table (member (codes "kind") (string kind) no_members)) no_members

-- [file] and nothing in it
abbrev pub of_no_kind : Members
of_no_kind = member (codes "file") (table no_members) no_members

-- nine columns in the order of the mapping, and perhaps one of the name
abbrev pub nine_columns : Option Column → TradeColumns
nine_columns id = record {
  width = 0;
  id = id;
  time = column.At 0;
  participant = column.At 1;
  symbol = column.At 2;
  price = column.At 3;
  shares = column.At 4;
  side = column.At 5;
  condition = column.At 6;
  exempt = column.At 7;
  skip = column.At 8;
}

-- what the definitions say of them
pub record ExamplesHold : Type 0 where
  pub trades_are_said : says_trades (of_kind (codes "trades")) ≡ true
  pub quotes_are_not_trades : says_trades (of_kind (codes "quotes")) ≡ false
  pub without_a_kind_they_are_quotes : says_trades of_no_kind ≡ false
  pub nine_columns_are_needed : width_of (nine_columns None) ≡ 9
  pub the_name_stands_last : width_of (nine_columns (Some (column.At 9))) ≡ 10
  pub the_name_stands_first : width_of (nine_columns (Some (column.At 0))) ≡ 9
  pub another_date : is_other (Some 19724) (Some 19725) ≡ true
  pub the_same_date : is_other (Some 19724) (Some 19724) ≡ false
  pub no_date : is_other (Some 19724) None ≡ false
  pub the_first_day_stays : day_after (Some 19724) (Err cause.OtherDay) ≡ Some 19724
  pub no_day_without_an_execution : day_after None (Err cause.BadPrice) ≡ None
