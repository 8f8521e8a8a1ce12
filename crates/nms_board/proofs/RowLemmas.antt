-- What a board's rows are like: each of its participant and of a size, in order of place.
use Rattle.std.proofs.Common.{◌≡◌, ℕ, zero, suc, ◌+◌, ◌*◌, ◌<◌, ◌≤◌, ◌==◌, Bool, true, false, All, List, [], ◌∷◌, ◌++◌, length, map, Option}
use Rattle.std.proofs.Common.{Some, None, IfSome, get_or, slice_get, slice_index, if◌then◌else◌, refl, ap, subst, sym, ◌∙◌, arith, add-one}
use Rattle.std.specs.List.{filter_map, cons_option, range_with_len}
use Rattle.std.proofs.lemmas.Bool.{eqb-false}
use Rattle.std.proofs.lemmas.List.Edits.{get_or-between, length-between}
use Rattle.std.proofs.lemmas.Option.{get_or_from_slice_get, slice_get_read, slice_get_within}
use Rattle.nms_units.specs.Lot.{displayed_size}
use Rattle.nms_quote.specs.Content.{Content}
use Rattle.nms_quote.specs.Roster.{Sizes}
use Rattle.nms_quote.specs.Tape.{Tape}
use Rattle.nms_quote.specs.declared.side_quote.Side.{Side}
use Rattle.nms_quote.specs.declared.side_quote.QState.{QState}
use Rattle.nms_board.specs.Holding.{price_of}
use Rattle.nms_board.specs.History.{content_at, lot_at, receipt_of, state_at}
use Rattle.nms_board.specs.Kept.{symbol_cells}
use Rattle.nms_board.specs.Quotation.{is_halted, is_automated, quotation, quotation_of, quotations}
use Rattle.nms_board.specs.View.{AreRows}
use Rattle.nms_board.specs.Cells.{Board, IsBoard, IsInShape, place_of}
use Rattle.nms_board.specs.Shown.{row_held, row_of_cell, rows_held}
use Rattle.nms_board.specs.declared.cell.Cell.{Cell}
use Rattle.nms_board.specs.declared.row.Row.{Row}
use Rattle.nms_board.proofs.BoardLemmas.{rows_stand}
use Rattle.nms_board.proofs.LawLemmas.{rows_differ}
use Rattle.nms_board.proofs.ListLemmas.{filter_map_more}

-- a row of that participant, of a size
abbrev pub IsRowOf : ℕ → Row → Type 0
IsRowOf part row = (row.part ≡ part) × (0 < row.size)

-- rows in order of place, from a place on
abbrev IsFrom : ℕ → List Row → Type 0
IsFrom place [] = Unit {0}
IsFrom place (row ∷ rows) = (place ≤ row.part) × (0 < row.size) × IsFrom (row.part + 1) rows

IsFrom-later : (a b : ℕ) (rows : List Row) → a ≤ b → IsFrom b rows → IsFrom a rows
IsFrom-later a b [] le from = tt
IsFrom-later a b (row ∷ rows) le from = (omega (arith, from.0), from.1, from.2)

rising : (place : ℕ) (rows : List Row) → IsFrom place rows → (k : ℕ) → suc k < length (map (λ row. row.part) rows)
    → slice_index (map (λ row. row.part) rows) k < slice_index (map (λ row. row.part) rows) (suc k)
rising place [] from k below = absurd (omega arith)
rising place (row ∷ []) from k below = absurd (omega arith)
rising place (row ∷ next ∷ rows) from zero below = omega (arith, from.2.0)
rising place (row ∷ next ∷ rows) from (suc k) below = rising (row.part + 1) (next ∷ rows) from.2 k (omega arith)

each_of_size : (place : ℕ) (rows : List Row) → IsFrom place rows → All (λ row. 0 < row.size) rows
each_of_size place [] from k d below = absurd (omega arith)
each_of_size place (row ∷ rows) from zero d below = from.1
each_of_size place (row ∷ rows) from (suc k) d below = each_of_size (row.part + 1) rows from.2 k d (omega arith)

pub quotation_is_row : (lot part : ℕ) (state : Option QState) (receipt : ℕ) (content : Option Content)
    → IfSome (quotation lot part state receipt content) (IsRowOf part)
quotation_is_row lot part state receipt None = tt
quotation_is_row lot part state receipt (Some content) = by_tests (is_halted state) (displayed_size lot content.shares == 0) refl
  where
    by_tests : (halted nothing : Bool) → displayed_size lot content.shares == 0 ≡ nothing
        → IfSome (if halted then None else (if nothing then None else Some
        (record {
          part = part;
          price = content.price;
          size = displayed_size lot content.shares;
          receipt = receipt;
          protected = is_automated state;
        }))) (IsRowOf part)
    by_tests true nothing e = tt
    by_tests false true e = tt
    by_tests false false e = (refl, omega (arith, eqb-false (displayed_size lot content.shares) 0 e))

-- a quotation has the price of what is quoted
pub quotation_price : (lot part : ℕ) (state : Option QState) (receipt : ℕ) (content : Option Content)
    → IfSome (quotation lot part state receipt content) (λ row. row.price ≡ price_of content)
quotation_price lot part state receipt None = tt
quotation_price lot part state receipt (Some content) = by_tests (is_halted state) (displayed_size lot content.shares == 0)
  where
    by_tests : (halted nothing : Bool)
        → IfSome (if halted then None else (if nothing then None else Some
        (record {
          part = part;
          price = content.price;
          size = displayed_size lot content.shares;
          receipt = receipt;
          protected = is_automated state;
        }))) (λ (row : Row). row.price ≡ content.price)
    by_tests true nothing = tt
    by_tests false true = tt
    by_tests false false = refl

IsFrom-cons : (place : ℕ) (row : Option Row) (rows : List Row) → IfSome row (IsRowOf place) → IsFrom (place + 1) rows
    → IsFrom place (cons_option row rows)
IsFrom-cons place None rows is from = IsFrom-later place (place + 1) rows (omega arith) from
IsFrom-cons place (Some row) rows is from = (omega (arith, is.0), is.1, rw is.0 from)

IsFrom-range : (f : ℕ → Option Row) → ((part : ℕ) → IfSome (f part) (IsRowOf part)) → (place n : ℕ)
    → IsFrom place (filter_map f (range_with_len place n))
IsFrom-range f each place zero = tt
IsFrom-range f each place (suc n) = IsFrom-cons place (f place) (filter_map f (range_with_len (place
    + 1) n)) (each place) (IsFrom-range f each (place + 1) n)

-- the rows that a tape shows are in order, each with a size and its own receipt
pub quotations_are_rows : (sizes : Sizes) (tape : Tape) (sym : ℕ) (side : Side) → AreRows (quotations sizes tape sym side)
quotations_are_rows sizes tape symbol side =
    let from : IsFrom 0 (quotations sizes tape symbol side) =
    IsFrom-range (quotation_of sizes tape symbol side)
    (λ part. quotation_is_row (lot_at sizes tape symbol) part (state_at part symbol tape) (receipt_of part symbol side tape)
    (content_at part symbol side tape))
    0 sizes.parts in
    record {
      rising = λ k below. rw add-one (rising 0 (quotations sizes tape symbol side) from k (omega arith));
      sizes = each_of_size 0 (quotations sizes tape symbol side) from;
      receipts = rows_differ sizes tape symbol side;
    }

-- and so are the rows of a board that holds a tape
pub rows_held_are_rows : (board : Board) (sym : ℕ) (side : Side) → IsBoard board → AreRows (rows_held board sym side)
rows_held_are_rows board symbol side is =
    rw (rows_stand board is.tape symbol side is.stands) (quotations_are_rows board.sizes is.tape symbol side)

length-cons_option : {Y : Type 0} (o : Option Y) (ys : List Y) → length (cons_option o ys) ≤ length ys + 1
length-cons_option None ys = omega arith
length-cons_option (Some y) ys = omega arith

-- no more rows than participants
pub length-filter_map-range : {Y : Type 0} (f : ℕ → Option Y) (place n : ℕ) → length (filter_map f (range_with_len place n)) ≤ n
length-filter_map-range f place zero = omega arith
length-filter_map-range f place (suc n) =
    omega (arith, length-cons_option (f place) (filter_map f (range_with_len (place + 1) n)), length-filter_map-range f (place + 1) n)

-- the rows of one more participant, whose cell was read
pub rows_more : (board : Board) (sym : ℕ) (side : Side) (part lot i : ℕ) (cell : Cell) → IsInShape board
    → slice_get board.lots sym ≡ Some lot → part < board.sizes.parts
    → i ≡ place_of part sym → cell ≡ get_or board.cells i cell
    → filter_map (row_held board sym side) (range_with_len 0 (part + 1)) ≡ filter_map (row_held board sym side) (range_with_len 0 part)
    ++ cons_option (row_of_cell lot part side cell) []
rows_more board symbol side part lot i cell shape listed in_parts at read =
    let in_syms = slice_get_within board.lots symbol lot listed in
    let lot_is : slice_index board.lots symbol ≡ lot = get_or_from_slice_get board.lots symbol lot 0 listed in
    let there : slice_get board.cells (place_of part symbol) ≡ Some cell =
    rw (← at) (slice_get_read board.cells (length board.cells) i cell refl (omega (arith, shape.parts, shape.cells, shape.lots)) read) in
    let row : row_held board symbol side part ≡ row_of_cell lot part side cell = rw (lot_is, there) refl in
    filter_map_more (row_held board symbol side) part
    ∙ ap (λ row. filter_map (row_held board symbol side) (range_with_len 0 part) ++ cons_option row []) row

-- a symbol's cells, walked one by one
pub record IsWalk (board : Board) (sym lot : ℕ) (cells : List Cell) : Type 0 where
  pub shape : IsInShape board
  pub listed : slice_get board.lots sym ≡ Some lot
  pub cells_are : cells ≡ symbol_cells board.sizes.parts sym board.cells

pub walk_of : (inside board : Board) (sym lot at : ℕ) (all cells : List Cell) → inside ≡ board → IsInShape inside
    → slice_get board.lots sym ≡ Some lot
    → at ≡ sym → all ≡ inside.cells → cells ≡ symbol_cells inside.sizes.parts at all → IsWalk board sym lot cells
walk_of inside board symbol lot at all cells same shape listed at_is all_is cells_is =
    record {
      shape = subst IsInShape same shape;
      listed = listed;
      cells_are = cells_is ∙ rw (at_is, all_is) (ap (λ (b : Board). symbol_cells b.sizes.parts symbol b.cells) same);
    }

-- there is one for each participant
pub walk_long : (board : Board) (sym lot : ℕ) (cells : List Cell) → IsWalk board sym lot cells → length cells ≡ board.sizes.parts
walk_long board symbol lot cells walk =
    let in_syms = slice_get_within board.lots symbol lot walk.listed in
    ap length walk.cells_are
    ∙ omega (
      arith,
      length-between board.cells (32 * symbol) (32 * symbol + board.sizes.parts)
          (omega (arith, walk.shape.parts, walk.shape.cells, walk.shape.lots)),
    )

-- so there is room for the row of each
pub walk_room : (board : Board) (sym lot part : ℕ) (cells : List Cell) (side : Side) (rows : List Row) → IsWalk board sym lot cells
    → part < length cells
    → rows ≡ filter_map (row_held board sym side) (range_with_len 0 part) → length rows < 32
walk_room board symbol lot part cells side rows walk below is =
    omega (
      arith,
      ap length is,
      length-filter_map-range (row_held board symbol side) 0 part,
      walk_long board symbol lot cells walk,
      walk.shape.parts,
    )

-- the rows of one more participant
pub walk_more : (board : Board) (sym lot part : ℕ) (cells : List Cell) (side : Side) (cell : Cell) (rows : List Row)
    → IsWalk board sym lot cells → part < length cells
    → cell ≡ get_or cells part cell → rows ≡ filter_map (row_held board sym side) (range_with_len 0 part)
    → rows ++ cons_option (row_of_cell lot part side cell) [] ≡ filter_map (row_held board sym side) (range_with_len 0 (part + 1))
walk_more board symbol lot part cells side cell rows walk below read is =
    let in_parts : part < board.sizes.parts = omega (arith, walk_long board symbol lot cells walk) in
    rw is
    (sym (rows_more board symbol side part lot (place_of part symbol) cell walk.shape walk.listed in_parts refl
    (read ∙ ap (λ (all : List Cell). get_or all part cell) walk.cells_are
    ∙ get_or-between board.cells (32 * symbol) (32 * symbol + board.sizes.parts) part cell (omega arith))))

-- the rows of all
pub walk_all : (board : Board) (sym lot part : ℕ) (cells : List Cell) (side : Side) (rows : List Row) → IsWalk board sym lot cells
    → length cells ≤ part → part ≤ length cells
    → rows ≡ filter_map (row_held board sym side) (range_with_len 0 part) → rows ≡ rows_held board sym side
walk_all board symbol lot part cells side rows walk past within is =
    let all : part ≡ board.sizes.parts = omega (arith, walk_long board symbol lot cells walk) in
    is ∙ ap (λ n. filter_map (row_held board symbol side) (range_with_len 0 n)) all
