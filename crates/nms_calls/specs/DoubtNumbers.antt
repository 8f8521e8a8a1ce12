-- Why a plan is not confirmed, as numbers. This product's own rule.
use Rattle.std.specs.Prelude.{ℕ}
use Rattle.nms_rules.specs.declared.breach_kind.Breach.{Breach}
use Rattle.nms_rules.specs.declared.breach_kind.Breach.TheVariants as breach
use Rattle.nms_cert.specs.declared.doubt.Doubt.{Doubt}
use Rattle.nms_cert.specs.declared.doubt.Doubt.TheVariants as doubt
use Rattle.nms_calls.specs.declared.doubt_numbers.NmsDoubt.{NmsDoubt}

-- the number of a breach, P1 to P12
abbrev pub breach_number : Breach → ℕ
breach_number breach.OtherVersion = 1
breach_number breach.OtherOrder = 2
breach_number breach.NoSuchQuotation = 3
breach_number breach.PriceDiffers = 4
breach_number breach.ZeroLeg = 5
breach_number breach.OverSize = 6
breach_number breach.Repeated = 7
breach_number breach.BeyondLimit = 8
breach_number breach.OverAsked = 9
breach_number (breach.TradedThrough part) = 10
breach_number breach.FilledWrong = 11
breach_number breach.CostWrong = 12

-- the participant that is traded through
abbrev pub part_of : Breach → ℕ
part_of breach.OtherVersion = 0
part_of breach.OtherOrder = 0
part_of breach.NoSuchQuotation = 0
part_of breach.PriceDiffers = 0
part_of breach.ZeroLeg = 0
part_of breach.OverSize = 0
part_of breach.Repeated = 0
part_of breach.BeyondLimit = 0
part_of breach.OverAsked = 0
part_of (breach.TradedThrough part) = part
part_of breach.FilledWrong = 0
part_of breach.CostWrong = 0

abbrev pub no_doubt : NmsDoubt
no_doubt = record { doubt = 0; breach = 0; part = 0; cut = 0 }

abbrev pub breached : Breach → NmsDoubt
breached found = record { doubt = 1; breach = breach_number found; part = part_of found; cut = 0 }

-- the number of a doubt, K1 to K7, with its breach and its place
abbrev pub doubt_numbers : Doubt → NmsDoubt
doubt_numbers (doubt.Breach found) = breached found
doubt_numbers doubt.NotMost = record { doubt = 2; breach = 0; part = 0; cut = 0 }
doubt_numbers doubt.CutMissing = record { doubt = 3; breach = 0; part = 0; cut = 0 }
doubt_numbers doubt.CutExtra = record { doubt = 4; breach = 0; part = 0; cut = 0 }
doubt_numbers doubt.WrongKind = record { doubt = 5; breach = 0; part = 0; cut = 0 }
doubt_numbers doubt.MarginalRange = record { doubt = 6; breach = 0; part = 0; cut = 0 }
doubt_numbers (doubt.BoundFails cut) = record { doubt = 7; breach = 0; part = 0; cut = cut }
