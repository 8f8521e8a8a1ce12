-- The codes of breaches. This product's own rule.
use Rattle.std.specs.Prelude.{ℕ, List, codes}
use Rattle.nms_rules.specs.declared.breach_kind.Breach.{Breach}
use Rattle.nms_rules.specs.declared.breach_kind.Breach.TheVariants as breach

-- the code by which a breach is reported
abbrev pub code_of : Breach → List ℕ
code_of breach.OtherVersion = codes "P1"
code_of breach.OtherOrder = codes "P2"
code_of breach.NoSuchQuotation = codes "P3"
code_of breach.PriceDiffers = codes "P4"
code_of breach.ZeroLeg = codes "P5"
code_of breach.OverSize = codes "P6"
code_of breach.Repeated = codes "P7"
code_of breach.BeyondLimit = codes "P8"
code_of breach.OverAsked = codes "P9"
code_of (breach.TradedThrough part) = codes "P10"
code_of breach.FilledWrong = codes "P11"
code_of breach.CostWrong = codes "P12"
