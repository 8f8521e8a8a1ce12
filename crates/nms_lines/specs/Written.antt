-- What a failed write leaves: a prefix of what was to be written, and nothing else. This product's own rule.
use Rattle.std.specs.Prelude.{ℕ, ◌≡◌, List, ◌++◌, Option}
use Rattle.std.specs.Io.KnownBytes.{Appends}

-- a prefix of a text was appended, which may be none or all of it
pub record AppendsPart (old new : Option (List ℕ)) (text : List ℕ) : Type 0 where
  pub part : List ℕ
  pub rest : List ℕ
  pub split : text ≡ part ++ rest
  pub written : Appends old new part

-- a prefix of the complete writing was appended
pub record WritesPart (Leaves : Option (List ℕ) → Type 0) (old new : Option (List ℕ)) : Type 0 where
  pub text : List ℕ
  pub whole : Option (List ℕ)
  pub leaves : Leaves whole
  pub meant : Appends old whole text
  pub cut : AppendsPart old new text
