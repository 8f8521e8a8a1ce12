-- What a map of names says of some elements, so that no element is read twice. This product's own rule.
use Rattle.std.specs.Prelude.{◌≡◌, ℕ, List}
use Rattle.std.specs.Borrow.{Bor}
use Rattle.std.specs.Str.{bytes_eq}
use Rattle.indexmap.specs.IndexMap.{IndexMap, get_by}
use Rattle.toml.specs.Data.{Data}
use Rattle.nms_quote.specs.Roster.{Name}
use Rattle.nms_setup_places.specs.Findings.{first_named}

-- the map has the names of the elements and no other name. Each has the number of elements before the first one with it
abbrev pub KnowsNames : {S : Type 0} → IndexMap (Bor Name) ℕ S → List Data → Type 0
KnowsNames known rows = (name : Bor Name) → get_by (λ key. bytes_eq name.now key.now) known ≡ first_named name.now 0 rows
