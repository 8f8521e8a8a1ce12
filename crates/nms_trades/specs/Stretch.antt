-- Which shard judges an execution, if a symbol is cut by time: the last one whose own changes of the symbol, opening changes left out,
-- have begun by then. This product's own rule.
use Rattle.std.specs.Prelude.{ℕ, Bool, true, false, ◌&&◌, List, [], ◌∷◌, filter, nat_le, nat_lt, not, Option, Some, None}
use Rattle.std.specs.Prelude.{if◌then◌else◌}
use Rattle.nms_trades.specs.declared.stretch.Stretch.{Stretch}

-- whether the first change after a cut is in force at a time: it is not later, or, if the changes of the time itself are left out, it
-- is earlier
abbrev pub is_past : (before : Bool) → (cut t : ℕ) → Bool
is_past before cut t = if before then nat_lt cut t else nat_le cut t

-- whether a time is past the cut that a shard begins at; past the opening of the day it always is
abbrev pub has_begun : (before : Bool) → Option ℕ → (t : ℕ) → Bool
has_begun before None t = true
has_begun before (Some cut) t = is_past before cut t

-- whether it is past the cut that a shard ends at; past the end of the day it never is
abbrev pub has_ended : (before : Bool) → Option ℕ → (t : ℕ) → Bool
has_ended before None t = false
has_ended before (Some cut) t = is_past before cut t

-- whether a shard judges an execution of a time
abbrev pub is_own : (before : Bool) → Stretch → (t : ℕ) → Bool
is_own before stretch t = has_begun before stretch.from t && not (has_ended before stretch.until t)

-- the whole day
abbrev pub whole_day : Stretch
whole_day = record { from = None; until = None }

-- the stretches of a symbol's shards: from one cut to the next, and from the last one to the end of the day
unfoldable pub stretches : Option ℕ → (cuts : List ℕ) → List Stretch
stretches from [] = record { from = from; until = None } ∷ []
stretches from (cut ∷ cuts) = record { from = from; until = Some cut } ∷ stretches (Some cut) cuts

-- whether no cut from one on is before an earlier one
unfoldable pub rise_from : (cut : ℕ) → List ℕ → Bool
rise_from cut [] = true
rise_from cut (next ∷ cuts) = nat_le cut next && rise_from next cuts

-- the shards of a symbol that judge an execution of a time
abbrev pub owners : (before : Bool) → (t : ℕ) → List Stretch → List Stretch
owners before t shards = filter (λ stretch. is_own before stretch t) shards
