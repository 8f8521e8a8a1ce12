-- `add_symbols`: what was added so far.
use Rattle.nms_shards.specs.Added.{Grown}
use Rattle.nms_shards.proofs.adding.add_symbols.Given as goal

abbrev pub invariant-loop-done : goal.invariant-loop-done
invariant-loop-done g l = Grown l.fn.roster l.roster
