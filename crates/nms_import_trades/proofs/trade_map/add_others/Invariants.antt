-- `add_others`: no letter so far claims a flag, and none is one of those.
use Rattle.std.proofs.Common.{◌≡◌, false}
use Rattle.std.specs.List.{list_any}
use Rattle.nms_import_trades.specs.TradeRow.{has_letter, is_claim}
use Rattle.nms_import_trades.proofs.trade_map.add_others.Given as goal

abbrev pub invariant-loop-value : goal.invariant-loop-value
invariant-loop-value l = record {
  claims : list_any (is_claim l.claims) l.letters.items ≡ false;
  those : list_any (has_letter l.those) l.letters.items ≡ false;
}
