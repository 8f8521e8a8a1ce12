-- Which rows of trades are skipped, and which are refused. This product's own rule.
use Rattle.std.specs.Prelude.{Bool, true, false}
use Rattle.nms_import_trades.specs.declared.trade_cause.TradeCause.{TradeCause}
use Rattle.nms_import_trades.specs.declared.trade_cause.TradeCause.TheVariants as cause

-- the last line of a file, a word that the mapping skips, a row that is no trade, a symbol that it does not ask for
abbrev pub is_skipped : TradeCause → Bool
is_skipped cause.TooFewColumns = false
is_skipped cause.BadName = false
is_skipped cause.BadTime = false
is_skipped cause.UnknownParticipant = false
is_skipped cause.UnknownSymbol = false
is_skipped cause.BadPrice = false
is_skipped cause.BadShares = false
is_skipped cause.UnknownSide = false
is_skipped cause.UnknownCondition = false
is_skipped cause.UnknownMark = false
is_skipped cause.UnknownWord = false
is_skipped cause.OtherDay = false
is_skipped cause.Trailer = true
is_skipped cause.Listed = true
is_skipped cause.NoTrade = true
is_skipped cause.OtherSymbol = true
