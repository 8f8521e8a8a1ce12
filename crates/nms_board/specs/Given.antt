-- Rows that a caller brings, best first: a test that a side of a market shows them. This product's own rule.
use Rattle.std.specs.Prelude.{◌==◌, ◌&&◌, Bool, true, not, nat_lt, List, [], ◌∷◌}
use Rattle.std.specs.List.{list_all}
use Rattle.nms_quote.specs.declared.side_quote.Side.{Side}
use Rattle.nms_board.specs.Ranking.{ranks_above}
use Rattle.nms_board.specs.declared.row.Row.{Row}

-- a row comes before another by participant place, and has another receipt
abbrev pub precedes : Row → Row → Bool
precedes row other = nat_lt row.part other.part && not (row.receipt == other.receipt)

abbrev pub precedes_all : Row → List Row → Bool
precedes_all row rows = list_all (precedes row) rows

-- rows by participant place, each of one share or more, no two of one receipt
unfoldable pub are_rows : List Row → Bool
are_rows [] = true
are_rows (row ∷ rows) = not (row.size == 0) && (precedes_all row rows && are_rows rows)

abbrev pub ranks_above_all : Side → Row → List Row → Bool
ranks_above_all side row rows = list_all (ranks_above side row) rows

-- rows in rank order: each ranks above every later one
unfoldable pub falls : Side → List Row → Bool
falls side [] = true
falls side (row ∷ rows) = ranks_above_all side row rows && falls side rows
