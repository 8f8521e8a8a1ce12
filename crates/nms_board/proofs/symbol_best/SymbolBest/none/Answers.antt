-- `SymbolBest::none`: neither side has a row.
use Rattle.nms_board.proofs.BestLemmas.{none_on_both}
use Rattle.nms_board.proofs.symbol_best.SymbolBest.none.Goals as goal

pub returns : goal.returns
returns c = none_on_both c.nothing.result c.nothing-2.result c.nothing.ensures c.nothing-2.ensures
