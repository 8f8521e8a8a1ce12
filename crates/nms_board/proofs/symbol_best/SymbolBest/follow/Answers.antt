-- `follow`: what it asks of each side, as it was asked of both.
use Rattle.nms_quote.specs.declared.side_quote.Side.TheVariants.{Bid, Offer}
use Rattle.nms_board.proofs.symbol_best.SymbolBest.follow.Goals as goal

pub follow_side-requires-clause-others : goal.follow_side-requires-clause-others
follow_side-requires-clause-others c = c.requires.others Bid

pub follow_side-requires-2-clause-others : goal.follow_side-requires-2-clause-others
follow_side-requires-2-clause-others c = c.requires.others Offer
