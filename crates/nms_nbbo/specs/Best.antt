-- The national best bid and offer (17 CFR 242.600, "national best bid and national best offer").
use Rattle.std.specs.Prelude.{◌≡◌, false, List, [], Option, All, Contains, MatchOption}
use Rattle.nms_quote.specs.declared.side_quote.Side.{Side}
use Rattle.nms_board.specs.Ranking.{ranks_above}
use Rattle.nms_board.specs.declared.row.Row.{Row}

-- a row of the side such that no row of the side ranks higher
pub record IsBest (side : Side) (rows : List Row) (row : Row) : Type 0 where
  pub among : Contains rows row
  pub highest : All (λ other. ranks_above side other row ≡ false) rows

-- the best row, or none if and only if the side is empty
abbrev pub IsBestOf : Side → List Row → Option Row → Type 0
IsBestOf side rows best = MatchOption best (rows ≡ []) (IsBest side rows)
