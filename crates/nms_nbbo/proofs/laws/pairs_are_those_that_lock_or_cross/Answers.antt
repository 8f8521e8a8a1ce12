-- `pairs_are_those_that_lock_or_cross`: all that it promises, by `lists_pairs`.
use Rattle.nms_nbbo.proofs.PairLemmas.{lists_pairs}
use Rattle.nms_nbbo.proofs.laws.pairs_are_those_that_lock_or_cross.Goals as goal

pub returns : goal.returns
returns c = lists_pairs
