-- A roster to which symbols were added. This product's own rule.
use Rattle.std.specs.Prelude.{ℕ, ◌≡◌, ◌++◌, List, map}
use Rattle.nms_quote.specs.Roster.{Listing}

-- its participants are the same, each of its symbols keeps its place and its round lot, and each further one has the lot 100
pub record Grown (before after : Listing) : Type 0 where
  pub names : List (List ℕ)
  pub parts : after.parts ≡ before.parts
  pub syms : after.syms ≡ before.syms ++ map (λ name. (name, 100)) names
