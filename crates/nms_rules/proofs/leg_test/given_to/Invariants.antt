-- `given_to`: what holds in each turn of its loop: `given` and `within`.
use Rattle.std.proofs.Common.{◌≡◌, ◌≤◌, ◌*◌, take}
use Rattle.nms_rules.specs.Faultless.{given_by}
use Rattle.nms_rules.proofs.leg_test.given_to.Given as goal

abbrev pub invariant-loop-leg : goal.invariant-loop-leg
invariant-loop-leg l = record {
  given : l.given ≡ given_by (take l.leg-index l.legs) l.part;
  within : l.given ≤ l.leg-index * 4294967296;
}
