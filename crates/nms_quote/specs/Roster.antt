-- Who is on the roster, and under which place. This product's own rule.
use Rattle.std.specs.Prelude.{◌≡◌, ◌≤◌, ℕ, true, ◌&&◌, ◌||◌, Bool, List, [], length, map, nat_lt, nat_le, position, slice_get, unwrap_or}
use Rattle.std.specs.Prelude.{option_map, Option, Some, None, if◌then◌else◌, is_some}
use Rattle.std.specs.List.{list_all}
use Rattle.std.specs.Str.{bytes_eq}
use Rattle.nms_quote.specs.declared.TheConstants.{MOST_PARTICIPANTS, MOST_SYMBOLS}
use Rattle.nms_quote.specs.declared.feed.Feed.{Feed}
use Rattle.nms_quote.specs.declared.feed.Feed.TheVariants as feed
use Rattle.nms_quote.specs.declared.roster_fault.RosterFault.{RosterFault}
use Rattle.nms_quote.specs.declared.roster_fault.RosterFault.TheVariants as fault
use Rattle.nms_quote.specs.declared.change.Change.{Change}
use Rattle.nms_quote.specs.declared.change.Change.TheVariants as change

abbrev pub Name : Type 0
Name = List ℕ

-- participants with their feeds and symbols with their opening round lots, each in order of place
pub record Listing : Type 0 where
  pub parts : List (Name × Feed)
  pub syms : List (Name × ℕ)

-- the place of the entry of that name
abbrev pub place_in : {Z : Type 0} → List (Name × Z) → Name → Option ℕ
place_in entries name = position (λ entry. bytes_eq name entry.0) entries

-- A to Z and 0 to 9
abbrev pub is_name_char : ℕ → Bool
is_name_char c = (nat_le 65 c && nat_le c 90) || (nat_le 48 c && nat_le c 57)

-- those, and the point
abbrev pub is_symbol_char : ℕ → Bool
is_symbol_char c = is_name_char c || (nat_le 46 c && nat_le c 46)

-- 1 to `most` characters that pass
abbrev pub is_name_of : (ℕ → Bool) → ℕ → Name → Bool
is_name_of passes most name = nat_lt 0 (length name) && nat_le (length name) most && list_all passes name

abbrev pub is_part_name : Name → Bool
is_part_name name = is_name_of is_name_char 4 name

abbrev pub is_symbol_name : Name → Bool
is_symbol_name name = is_name_of is_symbol_char 8 name

-- why an entry is refused, the first reason that holds: its name's form, a name that is there already, no room
abbrev pub refusal_in : {Z : Type 0} → (Name → Bool) → ℕ → List (Name × Z) → Name → Option RosterFault
refusal_in is_name most entries name =
    if is_name name
    then (if is_some (place_in entries name) then Some fault.Duplicate
    else (if nat_lt (length entries) most then None else Some fault.TooMany))
    else Some fault.BadName

-- every name passes, and there are at most `most` of them
pub record AreNames {Z : Type 0} (is_name : Name → Bool) (most : ℕ) (entries : List (Name × Z)) : Type 0 where
  pub formed : list_all (λ entry. is_name entry.0) entries ≡ true
  pub within : length entries ≤ most

abbrev pub part_refusal : Listing → Name → Option RosterFault
part_refusal roster name = refusal_in is_part_name MOST_PARTICIPANTS roster.parts name

abbrev pub sym_refusal : Listing → Name → Option RosterFault
sym_refusal roster name = refusal_in is_symbol_name MOST_SYMBOLS roster.syms name

-- the name of the participant at a place
abbrev pub part_text : Listing → ℕ → Name
part_text roster part = unwrap_or (option_map (λ entry. entry.0) (slice_get roster.parts part)) []

-- the name of the symbol at a place
abbrev pub symbol_text : Listing → ℕ → Name
symbol_text roster sym = unwrap_or (option_map (λ entry. entry.0) (slice_get roster.syms sym)) []

-- the feed of the participant at a place
abbrev pub feed_at : Listing → ℕ → Option Feed
feed_at roster part = option_map (λ entry. entry.1) (slice_get roster.parts part)

-- the feed that a change belongs to: its participant's, and the first one for a new round lot
abbrev pub feed_of_change : Listing → Change → Option Feed
feed_of_change roster (change.Quote part sym state bid offer) = feed_at roster part
feed_of_change roster (change.State part sym state) = feed_at roster part
feed_of_change roster (change.Withdraw part) = feed_at roster part
feed_of_change roster (change.Lot sym lot) = Some feed.A

-- how many participants there are, and each symbol's opening round lot
pub record Sizes : Type 0 where
  pub parts : ℕ
  pub lots : List ℕ

abbrev pub sizes_of : Listing → Sizes
sizes_of roster = record { parts = length roster.parts; lots = map (λ entry. entry.1) roster.syms }

-- whether a change names participants and symbols of the roster
abbrev pub holds : Sizes → Change → Bool
holds sizes (change.Quote part sym state bid offer) = nat_lt part sizes.parts && nat_lt sym (length sizes.lots)
holds sizes (change.State part sym state) = nat_lt part sizes.parts && nat_lt sym (length sizes.lots)
holds sizes (change.Withdraw part) = nat_lt part sizes.parts
holds sizes (change.Lot sym lot) = nat_lt sym (length sizes.lots)
