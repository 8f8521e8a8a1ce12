-- Names that one field joins, and the first of them that is not on the roster. This product's own rule.
use Rattle.std.specs.Prelude.{ℕ, ◌≡◌, ◌<◌, List, All, length, take, get_or, IsSome, None}
use Rattle.nms_quote.specs.Roster.{Listing, Name, place_in}

-- a name of the roster
abbrev pub IsListed : Listing → Name → Type 0
IsListed roster name = IsSome (place_in roster.parts name)

-- the name at that place is not on the roster, and each before it is
pub record IsFirstUnknown (roster : Listing) (names : List Name) (nth : ℕ) : Type 0 where
  pub there : nth < length names
  pub name : Name
  pub is : name ≡ get_or names nth name
  pub unknown : place_in roster.parts name ≡ None
  pub before : All (IsListed roster) (take nth names)
