-- The text that a call adds to its writer's: a text of one kind, or at a failure a prefix of such a text. This
-- product's own rule.
use Rattle.std.specs.Prelude.{ℕ, ◌≡◌, List, Option, Result, MatchResult, Some}
use Rattle.std.specs.Io.KnownBytes.{Appends}
use Rattle.nms_lines.specs.Written.{AppendsPart}

-- a text of that kind was added
pub record Adds (IsKind : List ℕ → Type 0) (old new : Option (List ℕ)) : Type 0 where
  pub text : List ℕ
  pub kind : IsKind text
  pub written : Appends old new text

-- a prefix of a text of that kind was added, which may be none or all of it
pub record AddsPart (IsKind : List ℕ → Type 0) (old new : Option (List ℕ)) : Type 0 where
  pub text : List ℕ
  pub kind : IsKind text
  pub cut : AppendsPart old new text

-- the first if the call succeeded, the second if it failed
abbrev pub Writes : {T E : Type 0} → (List ℕ → Type 0) → Option (List ℕ) → Option (List ℕ) → Result T E → Type 0
Writes IsKind old new result = MatchResult result (λ _. Adds IsKind old new) (λ _. AddsPart IsKind old new)

-- a text of that kind was added to what a text holds; if the call failed, nothing
abbrev pub Keeps : {T E : Type 0} → (List ℕ → Type 0) → List ℕ → List ℕ → Result T E → Type 0
Keeps IsKind old new result = MatchResult result (λ _. Adds IsKind (Some old) (Some new)) (λ _. new ≡ old)
