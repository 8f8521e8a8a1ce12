-- `apply_taken`: what holds in each turn of its loop.
use Rattle.std.proofs.Common.{◌≡◌, fold, take}
use Rattle.nms_versions.specs.Rule.{after_taken}
use Rattle.nms_versions.proofs.sealed.apply_taken.Given as goal

abbrev pub invariant-loop-change : goal.invariant-loop-change
invariant-loop-change l = l.boards ≡ fold after_taken l.initial.boards (take l.change-index l.changes)
