-- `first_traded_through`: what holds in each turn of its loop.
use Rattle.std.proofs.Common.{◌≡◌, None, take}
use Rattle.std.specs.List.{find}
use Rattle.nms_rules.specs.Breach.{is_traded_through}
use Rattle.nms_rules.proofs.leg_test.first_traded_through.Given as goal

-- none of the rows so far
abbrev pub invariant-loop-row : goal.invariant-loop-row
invariant-loop-row l = find (is_traded_through l.order l.legs) (take l.row-index l.row-items) ≡ None
