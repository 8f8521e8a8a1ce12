-- Numbers that a field may or may not write. This product's own rule.
use Rattle.std.specs.Prelude.{ℕ, ◌==◌, ◌&&◌, Bool, true, false, List, nat_le, nat_lt, Option, Some, None, if◌then◌else◌}
use Rattle.nms_units.specs.Digits.{number_in}
use Rattle.nms_units.specs.declared.TheConstants.{MOST_LOT}

-- the shares that a field writes: 1 to 9 digits
abbrev pub shares_number : List ℕ → Option ℕ
shares_number text = number_in 9 text

-- whether there is a number
abbrev pub is_there : Option ℕ → Bool
is_there None = false
is_there (Some n) = true

-- whether there is one, and it is 0
abbrev pub is_zero : Option ℕ → Bool
is_zero None = false
is_zero (Some n) = n == 0

-- a number above zero
abbrev pub above_zero : Option ℕ → Option ℕ
above_zero None = None
above_zero (Some n) = if n == 0 then None else Some n

-- a number below a limit
abbrev pub below : ℕ → Option ℕ → Option ℕ
below limit None = None
below limit (Some n) = if nat_lt n limit then Some n else None

-- a number that is a round lot: 1 to 1,000
abbrev pub as_lot : Option ℕ → Option ℕ
as_lot None = None
as_lot (Some n) = if nat_le 1 n && nat_le n MOST_LOT then Some n else None

-- the round lot that a field writes: 1 to 4 digits
abbrev pub lot_number : List ℕ → Option ℕ
lot_number text = as_lot (number_in 4 text)
