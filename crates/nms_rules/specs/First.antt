-- The first of several findings: a plan or a certificate is refused for the first one that holds. This product's own
-- rule.
use Rattle.std.specs.Prelude.{Bool, Option, Some, None, if◌then◌else◌}

-- the first finding, or else the second
infixr 10 ◌or_else◌
abbrev pub ◌or_else◌ : {X : Type 0} → Option X → Option X → Option X
(Some found) or_else more = Some found
None or_else more = more

-- a finding, if it holds
abbrev pub when : {X : Type 0} → Bool → X → Option X
when holds found = if holds then Some found else None
