-- What an open handle holds, how a change moves it, and what a call answers there. This product's own rule.
use Rattle.std.specs.Prelude.{◌≡◌, ◌+◌, ◌<◌, ◌≤◌, fold, ◌++◌, ◌∷◌, [], ℕ, IfOk, Bool, nat_lt, length, List, Option, Some, None, Result, Ok}
use Rattle.std.specs.Prelude.{Err, if◌then◌else◌}
use Rattle.nms_quote.specs.Roster.{Sizes, sizes_of}
use Rattle.nms_quote.specs.Tape.{Tape}
use Rattle.nms_quote.specs.declared.change.Change.{Change}
use Rattle.nms_board.specs.Cells.{Board, StandsFor, opening}
use Rattle.nms_board.specs.Shown.{seen_on}
use Rattle.nms_board.specs.View.{Seen}
use Rattle.nms_fees.specs.Settings.{Settings}
use Rattle.nms_fees.specs.Setup.{IsSetupOf}
use Rattle.nms_opening.specs.Rolling.{HasTaken, Rolled}
use Rattle.nms_opening.specs.declared.TheConstants.{MOST_BEFORE, ROLLS_AT}
use Rattle.nms_calls.specs.ChangeSaid.{change_said}
use Rattle.nms_calls.specs.OrderSaid.{order_said}
use Rattle.nms_calls.specs.declared.call_fault.CallFault.{CallFault}
use Rattle.nms_calls.specs.declared.call_fault.CallFault.TheVariants as fault
use Rattle.nms_calls.specs.declared.change_numbers.NmsChange.{NmsChange}
use Rattle.nms_calls.specs.declared.order_numbers.NmsOrder.{NmsOrder}

-- the settings, the board that is shown, and how many changes were applied in addition to those that the board counts
pub record Opened : Type 0 where
  pub settings : Settings
  pub board : Board
  pub before : ℕ

abbrev pub rolled : Opened → Rolled
rolled opened = record { board = opened.board; before = opened.before }

-- how many changes were applied
abbrev pub version : Opened → ℕ
version opened = opened.before + opened.board.applied

-- what a look at a symbol shows: the board's rows, in that version
abbrev pub seen_of : Opened → ℕ → Seen
seen_of opened sym = record (seen_on opened.board sym) { version = version opened }

-- the board is of the settings' roster
abbrev pub IsOfRoster : Opened → Type 0
IsOfRoster opened = opened.board.sizes ≡ sizes_of opened.settings.roster

-- and not more changes were applied than may be
abbrev pub IsHeld : Opened → Type 0
IsHeld opened = IsOfRoster opened × (version opened ≤ MOST_BEFORE)

-- a board with nothing on it, of the setup that a text is
pub record IsNew (text : List ℕ) (opened : Opened) : Type 0 where
  pub setup : IsSetupOf text opened.settings
  pub board : opened.board ≡ opening (sizes_of opened.settings.roster)
  pub before : opened.before ≡ 0
  pub stands : StandsFor opened.board []

-- the sizes of the roster
abbrev pub sizes_on : Opened → Sizes
sizes_on opened = sizes_of opened.settings.roster

-- ---- a symbol

-- why a look at a symbol is refused
abbrev pub sym_fault : Opened → ℕ → Option CallFault
sym_fault opened sym = if nat_lt sym (length opened.settings.roster.syms) then None else Some fault.NoSymbol

-- ---- a change

-- whether one more may be applied after n changes
abbrev pub has_room : ℕ → Bool
has_room applied = nat_lt applied MOST_BEFORE

-- why a change that numbers say is refused after n others: their room is checked last
abbrev pub room_fault : ℕ → Result Change CallFault → Option CallFault
room_fault applied (Err found) = Some found
room_fault applied (Ok change) = if has_room applied then None else Some fault.Full

abbrev pub apply_fault : Opened → NmsChange → Option CallFault
apply_fault opened n = room_fault (version opened) (change_said (sizes_on opened) n)

-- one change was applied: the settings stay, and the board has taken it
pub record HasApplied (old new : Opened) (change : Change) : Type 0 where
  pub settings : new.settings ≡ old.settings
  pub taken : HasTaken (rolled old) (rolled new) change

-- the change that numbers say was applied
abbrev pub HasAppliedSaid : NmsChange → Opened → Opened → Type 0
HasAppliedSaid n old new = IfOk (change_said (sizes_on old) n) (HasApplied old new)

-- a tape with one change more than before, while the board is far from where it goes over
abbrev pub GrewBy : Change → Opened → Opened → Type 0
GrewBy change old new =
    old.board.applied + 1 < ROLLS_AT → (tape : Tape) → StandsFor old.board tape → StandsFor new.board (tape ++ change ∷ [])

-- with the one that the numbers say
abbrev pub Grew : NmsChange → Opened → Opened → Type 0
Grew n old new = IfOk (change_said (sizes_on old) n) (λ change. GrewBy change old new)

-- ---- many changes

-- how far a call comes with many changes: how many are applied, and why one is refused
pub record Progress : Type 0 where
  pub applied : ℕ
  pub fault : Option CallFault

abbrev pub tried : ℕ → Option CallFault → Progress
tried applied None = record { applied = applied + 1; fault = None }
tried applied (Some found) = record { applied = applied; fault = Some found }

-- why a change is refused after some that are applied
abbrev pub later_fault : Opened → ℕ → NmsChange → Option CallFault
later_fault opened applied n = room_fault (version opened + applied) (change_said (sizes_on opened) n)

-- one change more, and nothing after a refusal
abbrev pub next_from : Opened → Progress → NmsChange → Option CallFault → Progress
next_from opened p n None = tried p.applied (later_fault opened p.applied n)
next_from opened p n (Some found) = p

abbrev pub next : Opened → Progress → NmsChange → Progress
next opened p n = next_from opened p n p.fault

abbrev pub from_start : Progress
from_start = record { applied = 0; fault = None }

-- changes in order, up to the first that is refused
abbrev pub all_applied : Opened → List NmsChange → Progress
all_applied opened changes = fold (next opened) from_start changes

-- the change that numbers say was one to apply, and was applied
pub record IsApplied (n : NmsChange) (old new : Opened) : Type 0 where
  pub accepted : apply_fault old n ≡ None
  pub applied : HasAppliedSaid n old new

-- changes were applied one after another
pub data AreApplied (start : Opened) : List NmsChange → Opened → Type 0 where
  nothing : AreApplied start [] start
  one_more : (changes : List NmsChange) (n : NmsChange) (old new : Opened) → AreApplied start changes old → IsApplied n old new
      → AreApplied start (changes ++ n ∷ []) new

-- ---- an order

abbrev pub error_of : {X : Type 0} → Result X CallFault → Option CallFault
error_of (Ok value) = None
error_of (Err found) = Some found

-- why an order is not planned
abbrev pub order_fault : Opened → NmsOrder → Option CallFault
order_fault opened n = error_of (order_said (sizes_on opened) n)
