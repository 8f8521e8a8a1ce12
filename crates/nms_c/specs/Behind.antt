-- What an open handle holds. This product's own rule.
use Rattle.std.specs.Prelude.{Option, Some, None}

-- the cell is not empty, and a fact holds of its value
abbrev pub Behind : {X : Type 0} → Option X → (X → Type 0) → Type 0
Behind None holds = ⊥
Behind (Some value) holds = holds value
