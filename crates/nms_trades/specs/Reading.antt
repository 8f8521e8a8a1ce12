-- What a record of an execution says: `D,id,sym,price,shares,side,when,part,flags`. This product's own rule.
use Rattle.std.specs.Prelude.{ℕ, ◌≡◌, ◌≤◌, ◌<◌, ◌==◌, true, ◌||◌, ◌&&◌, Bool, List, [], length, nat_lt}
use Rattle.std.specs.Prelude.{nat_le, IfSome, Option, Some, None, Result, Ok, Err}
use Rattle.std.specs.Prelude.{codes, if◌then◌else◌}
use Rattle.std.specs.Char.{is_ascii_alphanumeric}
use Rattle.std.specs.List.{list_all}
use Rattle.nms_quote.specs.Roster.{Listing, place_in}
use Rattle.nms_lines.specs.Layout.{Record, field, is_text}
use Rattle.nms_lines.specs.Numbers.{above_zero, shares_number}
use Rattle.nms_trades.specs.FinePrice.{fine_number}
use Rattle.nms_trades.specs.When.{IsWithin, when_in}
use Rattle.nms_trades.specs.declared.clock.Clock.{Clock}
use Rattle.nms_trades.specs.declared.clock.When.{When}
use Rattle.nms_trades.specs.declared.execution.Deal.{Deal}
use Rattle.nms_trades.specs.declared.execution.Deal.TheVariants as deal
use Rattle.nms_trades.specs.declared.execution.Execution.{Execution}
use Rattle.nms_trades.specs.declared.trade_fault.TradeFault.{TradeFault}
use Rattle.nms_trades.specs.declared.trade_fault.TradeFault.TheVariants as fault

-- a byte of a name: a letter, a digit, `.`, `-` or `_`
abbrev pub is_name_byte : ℕ → Bool
is_name_byte c = is_ascii_alphanumeric c || c == 46 || c == 45 || c == 95

-- a name: 1 to 32 of them
abbrev pub is_name : List ℕ → Bool
is_name text = nat_lt 0 (length text) && nat_le (length text) 32 && list_all is_name_byte text

-- whether it bought or sold; an empty text says neither
abbrev pub deal_in : List ℕ → Result (Option Deal) TradeFault
deal_in text =
    if is_text [] text then Ok None
    else (if is_text (codes "B") text then Ok (Some deal.Bought)
    else (if is_text (codes "S") text then Ok (Some deal.Sold) else Err fault.BadSide))

-- when an execution took place
abbrev pub when_of : Execution → When
when_of execution = record {
  version = execution.version;
  first = execution.first;
  last = execution.last;
  second_before = execution.second_before;
  time = execution.time;
  other = execution.other;
}

-- a participant of the roster
abbrev pub part_found : Option ℕ → Result (Option ℕ) TradeFault
part_found None = Err fault.UnknownParticipant
part_found (Some part) = Ok (Some part)

-- the same of a text; an empty one names none
abbrev pub part_of : Listing → List ℕ → Result (Option ℕ) TradeFault
part_of roster text = if is_text [] text then Ok None else part_found (place_in roster.parts text)

-- an execution that a roster and a number of changes know
pub record IsOn (roster : Listing) (changes : ℕ) (execution : Execution) : Type 0 where
  pub sym : execution.sym < length roster.syms
  pub part : IfSome execution.part (λ part. part < length roster.parts)
  pub version : execution.version ≤ changes
  pub first : execution.first ≤ changes
  pub last : execution.last ≤ changes
  pub second_before : execution.second_before ≤ changes
  pub price : execution.millionths ≤ 9999999999999

-- the version of an execution lies within its window
abbrev pub IsInWindow : Execution → Type 0
IsInWindow execution = IsWithin execution.first execution.version execution.last

-- the execution that a record says, except for its flags
pub record IsReadFrom (roster : Listing) (clock : Clock) (fields : Record) (execution : Execution) : Type 0 where
  pub kind : is_text (codes "D") (field fields 0) ≡ true
  pub count : length fields ≡ 9
  pub formed : is_name (field fields 1) ≡ true
  pub name : execution.name.items ≡ field fields 1
  pub sym : place_in roster.syms (field fields 2) ≡ Some execution.sym
  pub price : above_zero (fine_number (field fields 3)) ≡ Some execution.millionths
  pub shares : above_zero (shares_number (field fields 4)) ≡ Some execution.shares
  pub deal : deal_in (field fields 5) ≡ Ok execution.deal
  pub when : when_in clock execution.sym (field fields 6) ≡ Ok (when_of execution)
  pub part : part_of roster (field fields 7) ≡ Ok execution.part
