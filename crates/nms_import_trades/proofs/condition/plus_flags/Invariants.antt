-- `plus_flags`: what holds in each turn of its loop.
use Rattle.std.proofs.Common.{◌≡◌, take}
use Rattle.nms_import_trades.specs.Executions.{plus_flags}
use Rattle.nms_import_trades.proofs.condition.plus_flags.Given as goal

-- the flags so far were written
abbrev pub invariant-loop-it : goal.invariant-loop-it
invariant-loop-it l = l.out.items ≡ plus_flags (take l.it-index l.claims) l.condition l.unexplained
