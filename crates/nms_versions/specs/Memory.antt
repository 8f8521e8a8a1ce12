-- What a desk keeps about what it saw or learned of. This product's own rule.
use Rattle.std.specs.Prelude.{ℕ, ◌≡◌, List, [], length, map, Option, Some, None}
use Rattle.std.specs.List.{AllByRecursion}
use Rattle.std.specs.declared.snapshot.Snapshot.{Snapshot}
use mathlib.Core.List.{IsPrefix}
use Rattle.nms_versions.specs.Published.{Batches, changes}
use Rattle.nms_versions.specs.Taped.{longest_of}

-- what an earlier memory had
abbrev pub recalled : Option (Snapshot (List Batches)) → List Batches
recalled None = []
recalled (Some earlier) = earlier.value

-- all that is remembered begins the longest, which has n changes
pub record Remembers (longest : Batches) (count : ℕ) (memory : List Batches) : Type 0 where
  pub begin : AllByRecursion (λ earlier. IsPrefix earlier longest) memory
  pub counted : count ≡ length (changes longest)
  pub greatest : count ≡ longest_of (map changes memory)
