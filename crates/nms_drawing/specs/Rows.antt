-- The rows of a day's page that come of the changes: the best quotations, each participant's quotations and the round lots, as they
-- are at the first version that is shown, and then for each change of them. This product's own rule.
use Rattle.std.specs.Prelude.{ℕ, ◌≡◌, ◌+◌, ◌-◌, ◌||◌, Bool, List, [], ◌∷◌, ◌++◌, drop, fold, is_some, length, nat_lt, take, true, false, not}
use Rattle.std.specs.Prelude.{option_copied, Option, Some, None, slice_get, unwrap_or, if◌then◌else◌}
use Rattle.std.specs.List.{flat_map, range_with_len}
use Rattle.nms_quote.specs.Roster.{Sizes}
use Rattle.nms_quote.specs.Tape.{Tape}
use Rattle.nms_quote.specs.declared.change.Change.{Change}
use Rattle.nms_quote.specs.declared.change.Change.TheVariants as change
use Rattle.nms_quote.specs.declared.side_quote.Side.TheVariants.{Bid, Offer}
use Rattle.nms_board.specs.Cells.{Board, after, opening}
use Rattle.nms_board.specs.Shown.{row_held, seen_on}
use Rattle.nms_board.specs.declared.row.Row.{Row}
use Rattle.nms_stream.specs.Quoted.{are_alike, quoted_in}
use Rattle.nms_stream.specs.declared.quoted.Quoted.{Quoted}
use Rattle.nms_times.specs.Clock.{since_midnight}
use Rattle.nms_times.specs.Times.{time_of}
use Rattle.nms_drawing.specs.declared.rows.Window.{Window}
use Rattle.nms_drawing.specs.declared.rows.Rows.{Rows}

-- nanoseconds since midnight; 0 without a time
abbrev pub nanoseconds_in : Option ℕ → ℕ
nanoseconds_in None = 0
nanoseconds_in (Some time) = since_midnight time

abbrev pub clock_at : Option (List ℕ) → (version : ℕ) → ℕ
clock_at None version = 0
clock_at (Some times) version = nanoseconds_in (time_of times version)

-- the time of a version on a page: a version before the symbol's first change has none
abbrev pub time_in : Window → (version : ℕ) → ℕ
time_in window version = if nat_lt window.opening version then clock_at (option_copied window.times) version else 0

-- a best quotation: who shows it, its price and its displayed shares. No participant is 0
abbrev pub best_cells : Option Row → List ℕ
best_cells None = 0 ∷ 0 ∷ 0 ∷ []
best_cells (Some row) = (row.part + 1) ∷ row.price ∷ row.size ∷ []

-- a day, a version of it, its time, and the best quotations then
abbrev pub best_row : Window → (day version : ℕ) → Quoted → List ℕ
best_row window day version quoted =
    day ∷ version ∷ time_in window version ∷ best_cells quoted.bid ++ best_cells quoted.offer

-- the best quotations of a symbol if they look otherwise than on the board before
abbrev pub best_between : Window → (was board : Board) → (day sym : ℕ) → List (List ℕ)
best_between window was board day sym =
    if are_alike (quoted_in (seen_on was sym)) (quoted_in (seen_on board sym)) then []
    else best_row window day board.applied (quoted_in (seen_on board sym)) ∷ []

-- a participant's quotation: its price, its displayed shares, and for how many versions it has been so
abbrev pub side_cells : (version : ℕ) → Option Row → List ℕ
side_cells version None = 0 ∷ 0 ∷ 0 ∷ []
side_cells version (Some row) = row.price ∷ row.size ∷ (version - row.receipt) ∷ []

abbrev pub is_manual : Option Row → Bool
is_manual None = false
is_manual (Some row) = not row.protected

-- a day, a version of it, its time, and a participant's quotations then; last whether they are manual
abbrev pub part_row : Window → Board → (day sym part : ℕ) → List ℕ
part_row window board day sym part =
    day ∷ board.applied ∷ time_in window board.applied ∷ (part + 1)
    ∷ side_cells board.applied (row_held board sym Bid part) ++ side_cells board.applied (row_held board sym Offer part)
    ++ (if is_manual (row_held board sym Bid part) || is_manual (row_held board sym Offer part) then 1 else 0) ∷ []

-- the participants whose quotations a change may alter
abbrev pub parts_of : (parts : ℕ) → Change → List ℕ
parts_of parts (change.Quote part sym state bid offer) = part ∷ []
parts_of parts (change.State part sym state) = part ∷ []
parts_of parts (change.Withdraw part) = part ∷ []
parts_of parts (change.Lot sym lot) = range_with_len 0 parts

abbrev pub parts_after : Window → Board → Change → (day sym : ℕ) → List (List ℕ)
parts_after window board change day sym = flat_map (λ part. part_row window board day sym part ∷ []) (parts_of board.sizes.parts change)

-- a day, a version of it, its time, and the round lot then
abbrev pub lot_row : Window → Board → (day sym : ℕ) → List ℕ
lot_row window board day sym = day ∷ board.applied ∷ time_in window board.applied ∷ unwrap_or (slice_get board.lots sym) 0 ∷ []

abbrev pub lots_after : Window → Board → Change → (day sym : ℕ) → List (List ℕ)
lots_after window board (change.Quote part own state bid offer) day sym = []
lots_after window board (change.State part own state) day sym = []
lots_after window board (change.Withdraw part) day sym = []
lots_after window board (change.Lot own lot) day sym = lot_row window board day sym ∷ []

-- the symbols whose quotations a change may alter
abbrev pub symbols_of : (symbols : ℕ) → Change → List ℕ
symbols_of symbols (change.Quote part sym state bid offer) = sym ∷ []
symbols_of symbols (change.State part sym state) = sym ∷ []
symbols_of symbols (change.Withdraw part) = range_with_len 0 symbols
symbols_of symbols (change.Lot sym lot) = sym ∷ []

-- the day of a symbol on the page, if it has one
abbrev pub day_if : Option (Option ℕ) → Option ℕ
day_if None = None
day_if (Some day) = day

abbrev pub day_of : Window → (sym : ℕ) → Option ℕ
day_of window sym = day_if (slice_get window.days.now sym)

-- the rows of a symbol if it has a day
abbrev pub on_day : (rows : ℕ → List (List ℕ)) → Option ℕ → List (List ℕ)
on_day rows None = []
on_day rows (Some day) = rows day

abbrev pub of_symbols : Window → (rows : (day sym : ℕ) → List (List ℕ)) → List ℕ → List (List ℕ)
of_symbols window rows symbols = flat_map (λ sym. on_day (λ day. rows day sym) (day_of window sym)) symbols

-- the rows of a change, by the board before it and the board after it
abbrev pub best_rows : Window → (was board : Board) → Change → List (List ℕ)
best_rows window was board change = of_symbols window (best_between window was board) (symbols_of (length window.days.now) change)

abbrev pub board_rows : Window → (was board : Board) → Change → List (List ℕ)
board_rows window was board change = of_symbols window (parts_after window board change) (symbols_of (length window.days.now) change)

abbrev pub lot_rows : Window → (was board : Board) → Change → List (List ℕ)
lot_rows window was board change = of_symbols window (lots_after window board change) (symbols_of (length window.days.now) change)

-- the rows of changes, in order
abbrev pub along : ((was board : Board) → Change → List (List ℕ)) → Board → Tape → List (List ℕ)
along rows board [] = []
along rows board (change ∷ rest) = rows board (after board change) change ++ along rows (after board change) rest

-- the board at a version of a tape
abbrev pub board_at : Sizes → ℕ → Tape → Board
board_at sizes n tape = fold after (opening sizes) (take n tape)

-- the changes after one version up to another
abbrev pub shown_changes : (first last : ℕ) → Tape → Tape
shown_changes first last tape = take (last - first) (drop first tape)

-- what is in force on the first board that is shown: the best quotations of each symbol that has some
abbrev pub opened_best : Window → (before board : Board) → List (List ℕ)
opened_best window before board = of_symbols window (best_between window before board) (range_with_len 0 (length window.days.now))

-- the quotations of each participant, if it has any
abbrev pub part_if_shown : Window → Board → (day sym part : ℕ) → List (List ℕ)
part_if_shown window board day sym part =
    if is_some (row_held board sym Bid part) || is_some (row_held board sym Offer part) then part_row window board day sym part ∷ [] else []

abbrev pub opened_board : Window → Board → List (List ℕ)
opened_board window board = of_symbols window (λ day sym. flat_map (part_if_shown window board day sym) (range_with_len 0 board.sizes.parts))
    (range_with_len 0 (length window.days.now))

-- the round lot of each symbol
abbrev pub opened_lots : Window → Board → List (List ℕ)
opened_lots window board = of_symbols window (λ day sym. lot_row window board day sym ∷ []) (range_with_len 0 (length window.days.now))

-- the rows of the changes from one version to another
pub record AreRows (window : Window) (sizes : Sizes) (tape : Tape) (first last : ℕ) (rows : Rows) : Type 0 where
  pub best : rows.best.items ≡ opened_best window (opening sizes) (board_at sizes first tape)
      ++ along (best_rows window) (board_at sizes first tape) (shown_changes first last tape)
  pub board : rows.board.items ≡ opened_board window (board_at sizes first tape)
      ++ along (board_rows window) (board_at sizes first tape) (shown_changes first last tape)
  pub lots : rows.lots.items ≡ opened_lots window (board_at sizes first tape)
      ++ along (lot_rows window) (board_at sizes first tape) (shown_changes first last tape)
