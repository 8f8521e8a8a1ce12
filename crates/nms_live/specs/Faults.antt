-- The codes of a live run's faults, the exit status of a program that one ends, and which of several is answered. This
-- product's own rule.
use Rattle.std.specs.Prelude.{ℕ, ⊤, ◌+◌, List, [], ◌∷◌, codes, nat_lt, Option, Some, None, if◌then◌else◌}
use Rattle.nms_quote.specs.declared.feed.Feed.{Feed}
use Rattle.nms_quote.specs.Merge.{place_of}
use Rattle.nms_lines.specs.declared.line_fault.LineFault.{LineFault}
use Rattle.nms_live.specs.declared.live_fault.LiveFault.{LiveFault}
use Rattle.nms_live.specs.declared.live_fault.LiveFault.TheVariants as fault

abbrev pub code_of : LiveFault → List ℕ
code_of (fault.Line of number why) = codes "E5"
code_of fault.Open = codes "E6"
code_of fault.Append = codes "E7"
code_of fault.Desk = codes "E8"
code_of fault.GateLimit = codes "E9"
code_of fault.NoMemory = codes "E10"

-- the exit status of a program that it ends: 6 for a line of a feed, 7 for the run, 5 for memory
abbrev pub status_of : LiveFault → ℕ
status_of (fault.Line of number why) = 6
status_of fault.Open = 7
status_of fault.Append = 7
status_of fault.Desk = 7
status_of fault.GateLimit = 7
status_of fault.NoMemory = 5

-- the fault of least rank is answered; if records are refused, the refusal of the first feed's record
abbrev pub rank_of : LiveFault → ℕ
rank_of fault.Open = 0
rank_of (fault.Line of number why) = 1 + place_of of
rank_of fault.Append = 9
rank_of fault.Desk = 10
rank_of fault.GateLimit = 11
rank_of fault.NoMemory = 12

-- the fault of the lower rank, the first one if the ranks are equal; else the only fault
abbrev pub first_fault : Option LiveFault → Option LiveFault → Option LiveFault
first_fault None other = other
first_fault (Some one) None = Some one
first_fault (Some one) (Some other) = if nat_lt (rank_of other) (rank_of one) then Some other else Some one

-- the first of a fault and those that workers stopped with
abbrev pub first_among : {Worker : Type 0} → (Worker → Option LiveFault) → Option LiveFault → List Worker → Option LiveFault
first_among stop fault [] = fault
first_among stop fault (worker ∷ workers) = first_among stop (first_fault fault (stop worker)) workers

-- if it is the fault of a record, this holds of the feed, the record's number and its fault
abbrev pub IfLine : (Feed → ℕ → LineFault → Type 0) → LiveFault → Type 0
IfLine Holds (fault.Line of number why) = Holds of number why
IfLine Holds fault.Open = ⊤
IfLine Holds fault.Append = ⊤
IfLine Holds fault.Desk = ⊤
IfLine Holds fault.GateLimit = ⊤
IfLine Holds fault.NoMemory = ⊤

-- it is not the fault of a record
abbrev pub IsNoLine : LiveFault → Type 0
IsNoLine why = IfLine (λ of number own. ⊥) why

-- if there is a fault, it is not that of a record
abbrev pub IsNoLineIfAny : Option LiveFault → Type 0
IsNoLineIfAny None = ⊤
IsNoLineIfAny (Some why) = IsNoLine why
