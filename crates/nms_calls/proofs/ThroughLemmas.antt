-- The rows of a board's first participants that a price trades through; and that there are none if the best row is not.
use Rattle.std.proofs.Common.{ℕ, suc, ◌≡◌, ◌+◌, ◌<◌, ◌++◌, ◌&&◌, Bool, true, false, List, [], ◌∷◌, ap, get_or, refl, sym, ◌∙◌, arith}
use Rattle.std.specs.Prelude.{All, IfSome, Option, None, Some, zero}
use Rattle.std.specs.List.{cons_option, filter, filter_map, range_with_len}
use Rattle.std.proofs.lemmas.Bool.Decides.{nat_tests}
use Rattle.std.proofs.lemmas.List.Elements.{filter-append}
use Rattle.nms_quote.specs.declared.side_quote.Side.{Side}
use Rattle.nms_quote.specs.declared.side_quote.Side.TheVariants.{Bid, Offer}
use Rattle.nms_board.specs.Cells.{Board}
use Rattle.nms_board.specs.Ranking.{ranks_above}
use Rattle.nms_board.specs.Shown.{row_held}
use Rattle.nms_board.specs.declared.row.Row.{Row}
use Rattle.nms_nbbo.specs.Best.{IsBest}
use Rattle.nms_rules.proofs.Offered.{first_more}
use Rattle.nms_calls.specs.RowNumbers.{is_beyond, is_through_at, through_at}

-- those of the first participants
abbrev pub through_first : Board → ℕ → Side → ℕ → ℕ → List Row
through_first board symbol side millionths n =
    through_at side millionths (filter_map (row_held board symbol side) (range_with_len 0 n))

pub through_more : (board : Board) (symbol : ℕ) (side : Side) (millionths n : ℕ)
    → through_first board symbol side millionths n ++ through_at side millionths (cons_option (row_held board symbol side n) [])
    ≡ through_first board symbol side millionths (n + 1)
through_more board symbol side millionths n =
    sym (ap (through_at side millionths) (first_more board symbol side n)
    ∙ filter-append (is_through_at side millionths) (filter_map (row_held board symbol side) (range_with_len 0 n))
    (cons_option (row_held board symbol side n) []))

-- a row that ranks above no other one is no further beyond a price than that one
not_beyond : (side : Side) (millionths : ℕ) (best row : Row) → ranks_above side row best ≡ false
    → is_beyond side millionths best.price ≡ false → is_beyond side millionths row.price ≡ false
not_beyond Bid millionths best row below not_best = grind (arith, nat_tests)
not_beyond Offer millionths best row below not_best = grind (arith, nat_tests)

-- if no row is beyond a price, none is traded through
none_kept : (side : Side) (millionths : ℕ) (rows : List Row) → All (λ row. is_beyond side millionths row.price ≡ false) rows
    → through_at side millionths rows ≡ []
none_kept side millionths [] none = refl
none_kept side millionths (row ∷ rows) none =
    let first : is_through_at side millionths row ≡ false = rw (none 0 row (omega arith)) (by row.protected) in
    rw first (none_kept side millionths rows (λ k d below. none (suc k) d (omega arith)))
  where
    by : (protected : Bool) → (protected && false) ≡ false
    by true = refl
    by false = refl

-- if the best row is not beyond a price, none is traded through
pub none_through : (side : Side) (millionths : ℕ) (rows : List Row) (best : Row) → IsBest side rows best
    → is_beyond side millionths best.price ≡ false → through_at side millionths rows ≡ []
none_through side millionths rows best is not_best =
    none_kept side millionths rows (λ k d below. not_beyond side millionths best (get_or rows k d) (is.highest k d below) not_best)

-- a quotation whose price is not beyond another is not traded through
pub not_beyond_is_none : (side : Side) (millionths price : ℕ) (row : Option Row) → IfSome row (λ row. row.price ≡ price)
    → is_beyond side millionths price ≡ false → [] ≡ through_at side millionths (cons_option row [])
not_beyond_is_none side millionths price None is not = refl
not_beyond_is_none side millionths price (Some row) is not =
    sym (none_kept side millionths (row ∷ []) (λ k d below. by k below d))
  where
    by : (k : ℕ) → k < 1 → (d : Row) → is_beyond side millionths (get_or (row ∷ []) k d).price ≡ false
    by zero below d = rw is not
    by (suc k) below d = absurd (omega arith)
