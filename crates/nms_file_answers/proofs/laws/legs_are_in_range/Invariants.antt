-- `legs_are_in_range`: what holds in each turn of its loop.
use Rattle.std.proofs.Common.{◌≤◌, take}
use Rattle.std.specs.Prelude.{All}
use Rattle.nms_units.specs.declared.TheConstants.{MOST_SHARES}
use Rattle.nms_lines.specs.PlanLaws.{IsPriceInRange}
use Rattle.nms_file_answers.proofs.laws.legs_are_in_range.Given as goal

abbrev pub invariant-loop-leg : goal.invariant-loop-leg
invariant-loop-leg l = All (λ leg. IsPriceInRange leg.price × (leg.shares ≤ MOST_SHARES)) (take l.leg-index l.legs)
