-- Whether a symbol has been quoted (17 CFR 242.600, "bid or offer"). An execution in one that no participant has quoted yet is
-- not clean, because there is nothing to judge it by. This product's own rule.
use Rattle.std.specs.Prelude.{ℕ, ◌≡◌, ◌≤◌, ◌==◌, ◌&&◌, Bool, false, List, nat_le, nat_lt, not, slice_get, Option, Some, None, if◌then◌else◌}
use Rattle.std.specs.List.{list_any}
use Rattle.nms_quote.specs.Tape.{Tape, version}
use Rattle.nms_quote.specs.declared.change.Change.{Change}
use Rattle.nms_quote.specs.declared.change.Change.TheVariants as change
use Rattle.nms_trades.specs.declared.standing.Standing.{Standing}
use Rattle.nms_trades.specs.declared.standing.Standing.TheVariants as standing

-- whether a change is a participant's quotation of a symbol. One without prices counts: it says that the participant shows nothing
abbrev pub is_quotation : (sym : ℕ) → Change → Bool
is_quotation sym (change.Quote p s state bid offer) = s == sym
is_quotation sym (change.State p s state) = false
is_quotation sym (change.Withdraw p) = false
is_quotation sym (change.Lot s lot) = false

-- whether no participant has sent a quotation of a symbol by a version. After a withdrawal of all of them it is not so: then it is known
-- that nothing is shown
abbrev pub is_unquoted : Tape → (sym n : ℕ) → Bool
is_unquoted tape sym n = not (list_any (is_quotation sym) (version n tape))

-- a standing, except a clean one in a symbol that was not quoted
abbrev pub if_quoted : (unquoted : Bool) → Standing → Standing
if_quoted unquoted standing.Clean = if unquoted then standing.Unquoted else standing.Clean
if_quoted unquoted standing.Unquoted = standing.Unquoted
if_quoted unquoted standing.Perhaps = standing.Perhaps
if_quoted unquoted standing.Through = standing.Through
if_quoted unquoted standing.Other = standing.Other

-- the answer, by whether another shard judges the execution and by whether the symbol was not quoted
abbrev pub answered_as : (other unquoted : Bool) → Standing → Standing
answered_as other unquoted found = if other then standing.Other else if_quoted unquoted found

-- a number of changes from the first on has no quotation of a symbol, exactly if it is not above this one
abbrev pub IsFirst : Tape → (sym upto first : ℕ) → Type 0
IsFirst tape sym upto first = (n : ℕ) → n ≤ upto → is_unquoted tape sym n ≡ nat_le n first

-- the same of each symbol, by its place
abbrev pub AreFirsts : Tape → (upto : ℕ) → List ℕ → Type 0
AreFirsts tape upto firsts = (sym first : ℕ) → slice_get firsts sym ≡ Some first → IsFirst tape sym upto first

-- a number that a symbol's first quotation comes after, with one more change: if that is a quotation and none came before it, it is the
-- change's place
abbrev pub IsNotedFirst : (quotation : Bool) → (place : ℕ) → (was now : Option ℕ) → Type 0
IsNotedFirst quotation place None now = now ≡ None
IsNotedFirst quotation place (Some first) now = now ≡ Some (if quotation && nat_lt place first then place else first)
