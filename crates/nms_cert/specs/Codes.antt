-- The codes of doubts. This product's own rule.
use Rattle.std.specs.Prelude.{ℕ, List, codes}
use Rattle.nms_cert.specs.declared.doubt.Doubt.{Doubt}
use Rattle.nms_cert.specs.declared.doubt.Doubt.TheVariants as doubt

-- the code by which a doubt is reported
abbrev pub code_of : Doubt → List ℕ
code_of (doubt.Breach breach) = codes "K1"
code_of doubt.NotMost = codes "K2"
code_of doubt.CutMissing = codes "K3"
code_of doubt.CutExtra = codes "K4"
code_of doubt.WrongKind = codes "K5"
code_of doubt.MarginalRange = codes "K6"
code_of (doubt.BoundFails cut) = codes "K7"
