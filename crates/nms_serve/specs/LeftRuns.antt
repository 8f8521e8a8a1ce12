-- What is known of that which an earlier run has left of its tape, if anything. This product's own rule.
use Rattle.std.specs.Prelude.{◌≡◌, ◌≤◌, IfSome, Option}
use Rattle.nms_quote.specs.Roster.{Sizes}
use Rattle.nms_serving.specs.declared.TheConstants.{MOST_EPOCHS}
use Rattle.nms_serve.specs.declared.left_run.LeftRun.{LeftRun}

-- its board has the sizes of the setup's roster
abbrev pub IsOfRoster : Sizes → Option LeftRun → Type 0
IsOfRoster sizes left = IfSome left (λ run. IfSome run.from (λ epoch. epoch.left.board.sizes ≡ sizes))

-- the next epoch has a number that an epoch may have
abbrev pub HasNext : Option LeftRun → Type 0
HasNext left = IfSome left (λ run. run.epoch ≤ MOST_EPOCHS)
