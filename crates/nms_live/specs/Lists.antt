-- Numbers that never fall, and lists that end with one. This product's own rule.
use Rattle.std.specs.Prelude.{ℕ, ⊤, ◌≡◌, ◌≤◌, ◌⊎◌, List, [], ◌∷◌, ◌++◌}
use Rattle.std.specs.List.{AllByRecursion}

-- they never fall
abbrev pub IsRising : List ℕ → Type 0
IsRising [] = ⊤
IsRising (number ∷ later) = AllByRecursion (λ other. number ≤ other) later × IsRising later

-- the last one is this
abbrev pub EndsWith : List ℕ → ℕ → Type 0
EndsWith numbers last = (before : List ℕ) × (numbers ≡ before ++ last ∷ [])

-- one of them has the property
abbrev pub SomeOf : {X : Type 0} → (X → Type 0) → List X → Type 0
SomeOf P [] = ⊥
SomeOf P (x ∷ xs) = P x ⊎ SomeOf P xs
