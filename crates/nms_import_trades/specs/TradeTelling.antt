-- Where the rows that make no execution are shown. This product's own rule.
use Rattle.std.specs.Prelude.{ℕ, List}
use Rattle.nms_import_trades.specs.declared.trade_telling.TradeTold.{TradeTold}

-- the file whose rows are shown
abbrev pub file_of : {E : Type 0} → TradeTold E → List ℕ
file_of told = told.file.now

-- how many rows more are shown
abbrev pub left_of : {E : Type 0} → TradeTold E → ℕ
left_of told = told.left
