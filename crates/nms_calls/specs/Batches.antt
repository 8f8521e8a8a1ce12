-- Many calls in one, up to the first that is refused. This product's own rule.
use Rattle.std.specs.Prelude.{ℕ, ◌+◌, ◌<◌, ◌++◌, ◌∷◌, [], fold, List, length, nat_lt, slice_get, IfSome, Option, Some, None, Result, Ok, Err}
use Rattle.std.specs.Prelude.{if◌then◌else◌}
use Rattle.nms_quote.specs.Roster.{sizes_of}
use Rattle.nms_quote.specs.declared.change.Change.{Change}
use Rattle.nms_fees.specs.Settings.{Settings}
use Rattle.nms_calls.specs.ChangeSaid.{change_said}
use Rattle.nms_calls.specs.Opened.{IsApplied, Opened, Progress, from_start, room_fault, tried, version}
use Rattle.nms_calls.specs.RowNumbers.{AreBest}
use Rattle.nms_calls.specs.declared.call_fault.CallFault.{CallFault}
use Rattle.nms_calls.specs.declared.call_fault.CallFault.TheVariants as fault
use Rattle.nms_calls.specs.declared.change_numbers.NmsChange.{NmsChange}
use Rattle.nms_calls.specs.declared.row_numbers.NmsBest.{NmsBest}

-- one call more, and nothing after a refusal
abbrev pub called_from : {X : Type 0} → (X → Option CallFault) → Progress → X → Option CallFault → Progress
called_from why p item None = tried p.applied (why item)
called_from why p item (Some found) = p

abbrev pub called : {X : Type 0} → (X → Option CallFault) → Progress → X → Progress
called why p item = called_from why p item p.fault

-- how many calls are answered in order, and why the next one is refused
abbrev pub all_called : {X : Type 0} → (X → Option CallFault) → List X → Progress
all_called why items = fold (called why) from_start items

-- it is tested first whether there is a place for each answer
abbrev pub room_first : {X Y : Type 0} → List X → List Y → Progress → Progress
room_first items places p = if nat_lt (length places) (length items) then record { applied = 0; fault = Some fault.NoRoom } else p

-- how far a call of many comes
abbrev pub many : {X Y : Type 0} → (X → Option CallFault) → List X → List Y → Progress
many why items places = room_first items places (all_called why items)

-- the first n places have the answers
abbrev pub AreAnswers : {X Y : Type 0} → (X → Y → Type 0) → List X → List Y → ℕ → Type 0
AreAnswers answers items places n =
    (place : ℕ) → place < n → IfSome (slice_get items place) (λ item. IfSome (slice_get places place) (answers item))

-- ---- the best after each change

-- why a change is not applied after n others: the change is checked first, then the symbol whose best rows are asked for, then
-- the room. After a withdrawal the symbol is looked at too
abbrev pub looked_fault : Settings → ℕ → ℕ → Result Change CallFault → Option CallFault
looked_fault settings applied sym (Err found) = Some found
looked_fault settings applied sym (Ok change) =
    if nat_lt sym (length settings.roster.syms) then room_fault applied (Ok change) else Some fault.NoSymbol

abbrev pub followed_fault : Settings → ℕ → NmsChange → Option CallFault
followed_fault settings applied n = looked_fault settings applied n.sym (change_said (sizes_of settings.roster) n)

-- one change more, and nothing after a refusal
abbrev pub followed_from : Opened → Progress → NmsChange → Option CallFault → Progress
followed_from opened p n None = tried p.applied (followed_fault opened.settings (version opened + p.applied) n)
followed_from opened p n (Some found) = p

abbrev pub followed : Opened → Progress → NmsChange → Progress
followed opened p n = followed_from opened p n p.fault

-- changes in order, up to the first that is refused
abbrev pub all_followed : Opened → List NmsChange → Progress
all_followed opened changes = fold (followed opened) from_start changes

-- how far a call with changes comes
abbrev pub many_followed : {Y : Type 0} → Opened → List NmsChange → List Y → Progress
many_followed opened changes places = room_first changes places (all_followed opened changes)

-- changes were applied one after another, each with the best rows of its symbol after it
pub data AreFollowed (start : Opened) : List NmsChange → List NmsBest → Opened → Type 0 where
  nothing : AreFollowed start [] [] start
  one_more : (changes : List NmsChange) (places : List NmsBest) (n : NmsChange) (best : NmsBest) (old new : Opened)
      → AreFollowed start changes places old → IsApplied n old new → AreBest new n.sym best
      → AreFollowed start (changes ++ n ∷ []) (places ++ best ∷ []) new
