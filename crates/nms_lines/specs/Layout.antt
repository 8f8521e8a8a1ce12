-- Records, their fields and their kinds. This product's own rule.
use Rattle.std.specs.Prelude.{ℕ, ◌==◌, ◌||◌, Bool, List, [], length, slice_get, unwrap_or, Option, Some, None, codes, if◌then◌else◌}
use Rattle.std.specs.Str.{bytes_eq}
use Rattle.nms_lines.specs.declared.line.Kind.{Kind}
use Rattle.nms_lines.specs.declared.line.Kind.TheVariants as kind

-- a record: its fields, each a list of bytes
abbrev pub Record : Type 0
Record = List (List ℕ)

-- the field at a place, empty past the last
abbrev pub field : Record → ℕ → List ℕ
field fields place = unwrap_or (slice_get fields place) []

-- whether a text is that word
abbrev pub is_text : List ℕ → List ℕ → Bool
is_text word text = bytes_eq text word

-- the kind that a first field names
abbrev pub kind_named : List ℕ → Option Kind
kind_named text =
    if is_text (codes "Q") text then Some kind.Quote
    else (if is_text (codes "S") text then Some kind.State
    else (if is_text (codes "X") text then Some kind.Withdraw
    else (if is_text (codes "R") text then Some kind.Lot
    else (if is_text (codes "T") text then Some kind.TakeOne
    else (if is_text (codes "F") text then Some kind.TakeAll
    else (if is_text (codes "P") text then Some kind.Publish
    else (if is_text (codes "L") text then Some kind.Tell
    else (if is_text (codes "N") text then Some kind.Best
    else (if is_text (codes "E") text then Some kind.Through
    else (if is_text (codes "O") text then Some kind.Sweep else None))))))))))

-- the number of fields of a record of the kind. An order may have one more, its flag, and then one more, the
-- participants that it names. A round lot may have one more, its average price
abbrev pub is_count : Kind → ℕ → Bool
is_count kind.Quote n = n == 8
is_count kind.State n = n == 4
is_count kind.Withdraw n = n == 2
is_count kind.Lot n = (n == 3) || (n == 4)
is_count kind.TakeOne n = n == 1
is_count kind.TakeAll n = n == 1
is_count kind.Publish n = n == 1
is_count kind.Tell n = n == 2
is_count kind.Best n = n == 3
is_count kind.Through n = n == 4
is_count kind.Sweep n = (n == 6) || (n == 7) || (n == 8)

-- a round lot is given by an average closing price
abbrev pub has_average : Record → Bool
has_average fields = length fields == 4
