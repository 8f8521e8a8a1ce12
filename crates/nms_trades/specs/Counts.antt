-- How many executions there are, and how many traded through. This product's own rule.
use Rattle.std.specs.Prelude.{ℕ, Bool, true, false, ◌||◌, length, nat_lt, not, Option, Some, None, slice_get, unwrap_or, if◌then◌else◌}
use Rattle.nms_trades.specs.declared.finding.Finding.{Finding}
use Rattle.nms_trades.specs.declared.standing.Standing.{Standing}
use Rattle.nms_trades.specs.declared.standing.Standing.TheVariants as standing

-- whether it traded through on all versions of its window, or on some
abbrev pub is_through : Standing → Bool
is_through standing.Clean = false
is_through standing.Unquoted = false
is_through standing.Perhaps = false
is_through standing.Through = true
is_through standing.Other = false

abbrev pub is_perhaps : Standing → Bool
is_perhaps standing.Clean = false
is_perhaps standing.Unquoted = false
is_perhaps standing.Perhaps = true
is_perhaps standing.Through = false
is_perhaps standing.Other = false

-- whether its symbol had not been quoted
abbrev pub is_noquote : Standing → Bool
is_noquote standing.Clean = false
is_noquote standing.Unquoted = true
is_noquote standing.Perhaps = false
is_noquote standing.Through = false
is_noquote standing.Other = false

-- whether another shard judges it
abbrev pub is_other : Standing → Bool
is_other standing.Clean = false
is_other standing.Unquoted = false
is_other standing.Perhaps = false
is_other standing.Through = false
is_other standing.Other = true

-- whether it traded through, or perhaps did
abbrev pub passes_some : Standing → Bool
passes_some standing = is_through standing || is_perhaps standing

-- whether it is judged here
abbrev pub is_judged : Standing → Bool
is_judged standing = not (is_other standing)

-- whether a finding has such a standing
abbrev pub stands : (Standing → Bool) → Option Finding → Bool
stands test None = false
stands test (Some finding) = test finding.standing

-- as a number
abbrev pub stands_once : (Standing → Bool) → Finding → ℕ
stands_once test finding = if test finding.standing then 1 else 0

-- whether a protected quotation of its version was traded through
abbrev pub passes : Finding → Bool
passes finding = nat_lt 0 (length finding.passed.items)

-- whether the quotation at a place among those that were traded through flickered; no if that was not looked for
abbrev pub flickers_at : Finding → (place : ℕ) → Bool
flickers_at finding place = unwrap_or (slice_get finding.flickers.items place) false
