-- Boards that show alike show the same rows in the same rank order: their rows differ only in the receipts' numbers.
use Rattle.std.specs.Prelude.{Contains}
use Rattle.std.proofs.Common.{◌≡◌, ℕ, zero, suc, ◌+◌, ◌<◌, ◌≤◌, ◌==◌, ◌&&◌, ◌||◌, Bool, true, false, List, [], ◌∷◌, length, map, find}
use Rattle.std.proofs.Common.{Option, Some, None, option_map, option_and_then, slice_get, slice_set, slice_index, unwrap_or, nat_lt, cond}
use Rattle.std.proofs.Common.{refl, sym}
use Rattle.std.proofs.Common.{if◌then◌else◌, ap, subst, ◌∙◌, inl, inr, arith}
use Rattle.std.specs.List.{cons_option, count_by, filter_map, range_with_len}
use Rattle.std.specs.Option.{is_some}
use Rattle.std.proofs.lemmas.Bool.{cases_Bool}
use Rattle.std.proofs.lemmas.List.{length-map}
use Rattle.std.proofs.lemmas.List.Sums.{sum_by-cons}
use Rattle.std.proofs.lemmas.Option.{unwrap_or-slice_get}
use Rattle.nms_units.specs.Lot.{displayed_size}
use Rattle.nms_quote.specs.Content.{Content}
use Rattle.nms_quote.specs.Roster.{Sizes}
use Rattle.nms_quote.specs.declared.side_quote.Side.{Side}
use Rattle.nms_quote.specs.declared.side_quote.Side.TheVariants.{Bid, Offer}
use Rattle.nms_quote.specs.declared.side_quote.QState.{QState}
use Rattle.nms_quote.specs.declared.change.Change.TheVariants.{Lot}
use Rattle.nms_board.specs.Cells.{Board, after, empty_cell, place_of}
use Rattle.nms_board.specs.Quotation.{is_automated, is_halted, quotation}
use Rattle.nms_board.specs.Ranking.{better_price, rank_among, ranked, ranked_at, ranks_above}
use Rattle.nms_board.specs.Shown.{row_held, row_of_cell, rows_held}
use Rattle.nms_board.specs.declared.cell.Cell.{Cell}
use Rattle.nms_board.specs.declared.row.Row.{Row}
use Rattle.nms_board.proofs.Offered.{in_rest}
use Rattle.nms_opening.specs.Alike.{ShowAlike, ShowSame, cell_at, content_on, held_at, stands, state_in, unnumbered}

-- Lists whose elements are turned into others.

cons_option-map : {X Y : Type 0} (f : X → Y) (o : Option X) (xs : List X)
    → cons_option (option_map f o) (map f xs) ≡ map f (cons_option o xs)
cons_option-map f None xs = refl
cons_option-map f (Some x) xs = refl

filter_map-mapped : {X Y : Type 0} (f : X → Y) (g : ℕ → Option X) (h : ℕ → Option Y) (low n : ℕ)
    → ((k : ℕ) → low ≤ k → k < low + n → h k ≡ option_map f (g k))
    → filter_map h (range_with_len low n) ≡ map f (filter_map g (range_with_len low n))
filter_map-mapped f g h low zero same = refl
filter_map-mapped f g h low (suc n) same =
    rw (same low (omega arith) (omega arith), filter_map-mapped f g h (low + 1) n (λ k from below. same k (omega arith) (omega arith)))
    (cons_option-map f (g low) (filter_map g (range_with_len (low + 1) n)))

count_by-map : {X : Type 0} (f : X → X) (p q : X → Bool) (xs : List X) → ((x : X) → Contains xs x → p (f x) ≡ q x)
    → count_by p (map f xs) ≡ count_by q xs
count_by-map f p q [] same = refl
count_by-map f p q (x ∷ xs) same =
    let first : p (f x) ≡ q x = same x (0, omega arith, refl) in
    sum_by-cons (λ y. cond (p y) 1 0) (f x) (map f xs)
    ∙ rw (first, count_by-map f p q xs (λ y among. same y (in_rest x xs y among))) refl
    ∙ sym (sum_by-cons (λ y. cond (q y) 1 0) x xs)

find-map : {X : Type 0} (f : X → X) (p q : X → Bool) (xs : List X) → ((x : X) → Contains xs x → p (f x) ≡ q x)
    → find p (map f xs) ≡ option_map f (find q xs)
find-map f p q [] same = refl
find-map f p q (x ∷ xs) same =
    let first : p (f x) ≡ q x = same x (0, omega arith, refl) in
    elim (cases_Bool (q x)) [
      | inl holds_so ↦ rw (first, holds_so) refl
      | inr not_so ↦ rw (first, not_so) (find-map f p q xs (λ y among. same y (in_rest x xs y among)))
    ]

-- each answer of a range is that of one of its places
among_answers : {X : Type 0} (g : ℕ → Option X) (low n : ℕ) (x : X) → Contains (filter_map g (range_with_len low n)) x
    → (k : ℕ) × ((low ≤ k) × (k < low + n) × (g k ≡ Some x))
among_answers g low zero x (k, below, at) = absurd (omega arith)
among_answers {X = X} g low (suc n) x among = by_first (g low) refl (among_answers g (low + 1) n x) among
  where
    later_one : (k : ℕ) × ((low + 1 ≤ k) × (k < low + 1 + n) × (g k ≡ Some x)) → (k : ℕ) × ((low ≤ k) × (k < low + suc n) × (g k ≡ Some x))
    later_one rest = (rest.0, (omega (arith, rest.1.0), omega (arith, rest.1.1), rest.1.2))

    by_first : (first : Option X) → g low ≡ first
        → (Contains (filter_map g (range_with_len (low + 1) n)) x → (k : ℕ) × ((low + 1 ≤ k) × (k < low + 1 + n) × (g k ≡ Some x)))
        → Contains (cons_option first (filter_map g (range_with_len (low + 1) n))) x
        → (k : ℕ) × ((low ≤ k) × (k < low + suc n) × (g k ≡ Some x))
    by_first None is rest among = later_one (rest among)
    by_first (Some y) is rest (zero, below, at) = let same : y ≡ x = at in (low, (omega arith, omega arith, is ∙ ap Some same))
    by_first (Some y) is rest (suc k, below, at) = later_one (rest (k, omega arith, at))

-- rows turned into others that rank as they do are in the same rank order
ranked-map : (side : Side) (f : Row → Row) (rows : List Row)
    → ((row other : Row) → Contains rows row → Contains rows other → ranks_above side (f row) (f other) ≡ ranks_above side row other)
    → ranked side (map f rows) ≡ map f (ranked side rows)
ranked-map side f rows same =
    let rank : (row : Row) → Contains rows row → rank_among side (map f rows) (f row) ≡ rank_among side rows row =
    λ row among. count_by-map f (λ other. ranks_above side other (f row)) (λ other. ranks_above side other row) rows
    (λ other among_too. same other row among_too among) in
    let at_place : (at : ℕ) → ranked_at side (map f rows) at ≡ option_map f (ranked_at side rows at) =
    λ at. find-map f (λ row. rank_among side (map f rows) row == at) (λ row. rank_among side rows row == at) rows
    (λ row among. ap (λ (n : ℕ). n == at) (rank row among)) in
    ap (λ (n : ℕ). filter_map (ranked_at side (map f rows)) (range_with_len 0 n)) (length-map rows f)
    ∙ filter_map-mapped f (ranked_at side rows) (ranked_at side (map f rows)) 0 (length rows) (λ at from below. at_place at)

-- Rows of a board.

-- a participant's row is that of its cell
row_at : (board : Board) (sym : ℕ) (side : Side) (part : ℕ)
    → row_held board sym side part ≡ row_of_cell (slice_index board.lots sym) part side (cell_at board sym part)
row_at board symbol side part = by_cell (slice_get board.cells (place_of part symbol)) side
  where
    by_cell : (cell : Option Cell) (side : Side) → option_and_then (row_of_cell (slice_index board.lots symbol) part side) cell
        ≡ row_of_cell (slice_index board.lots symbol) part side (unwrap_or cell empty_cell)
    by_cell None Bid = refl
    by_cell None Offer = refl
    by_cell (Some cell) side = refl

-- a row with the receipt that its participant's side has on a board
abbrev renumbered : Board → ℕ → Side → Row → Row
renumbered board sym side row = record row { receipt = (held_at board sym side row.part).receipt }

quotation_again : (lot part : ℕ) (state state' : Option QState) (receipt receipt' : ℕ) (content : Option Content) (number : ℕ → ℕ)
    → number part ≡ receipt' → (is_some content ≡ true → state ≡ state')
    → quotation lot part state' receipt' content
    ≡ option_map (λ (row : Row). record row { receipt = number row.part }) (quotation lot part state receipt content)
quotation_again lot part state state' receipt receipt' None number at same = refl
quotation_again lot part state state' receipt receipt' (Some content) number at same =
    rw (← same refl, ← at) (by_tests (is_halted state) (displayed_size lot content.shares == 0))
  where
    by_tests : (halted none : Bool) → (if halted then None
        else (if none then None
        else Some (record {
          part = part;
          price = content.price;
          size = displayed_size lot content.shares;
          receipt = number part;
          protected = is_automated state;
        }))) ≡ option_map (λ (row : Row). record row { receipt = number row.part }) (if halted then None
        else (if none then None
        else Some (record {
          part = part;
          price = content.price;
          size = displayed_size lot content.shares;
          receipt = receipt;
          protected = is_automated state;
        })))
    by_tests true none = refl
    by_tests false true = refl
    by_tests false false = refl

row_again : (one other : Board) (sym : ℕ) (side : Side) (part : ℕ) → ShowAlike one other sym → part < one.sizes.parts
    → row_held other sym side part ≡ option_map (renumbered other sym side) (row_held one sym side part)
row_again one other symbol side part alike in_parts =
    let lot : slice_index one.lots symbol ≡ slice_index other.lots symbol =
    sym (unwrap_or-slice_get one.lots symbol 0) ∙ ap (λ (lot : Option ℕ). unwrap_or lot 0) alike.lot
    ∙ unwrap_or-slice_get other.lots symbol 0 in
    rw (row_at one symbol side part, row_at other symbol side part, ← lot, ← alike.contents side part in_parts)
    (quotation_again (slice_index one.lots symbol) part (state_in one symbol part) (state_in other symbol part)
    (held_at one symbol side part).receipt (held_at other symbol side part).receipt (content_on one symbol side part)
    (λ part. (held_at other symbol side part).receipt) refl (alike.states side part in_parts))

rows_again : (one other : Board) (sym : ℕ) (side : Side) → ShowAlike one other sym
    → rows_held other sym side ≡ map (renumbered other sym side) (rows_held one sym side)
rows_again one other symbol side alike =
    ap (λ (sizes : Sizes). filter_map (row_held other symbol side) (range_with_len 0 sizes.parts)) (sym alike.roster)
    ∙ filter_map-mapped (renumbered other symbol side) (row_held one symbol side) (row_held other symbol side) 0 one.sizes.parts
    (λ part from below. row_again one other symbol side part alike (omega arith))

-- a row is of a participant whose side is quoted, with its receipt
record IsRowAt (board : Board) (sym : ℕ) (side : Side) (row : Row) : Type 0 where
  in_parts : row.part < board.sizes.parts
  something : stands board sym side row.part ≡ true
  receipt : row.receipt ≡ (held_at board sym side row.part).receipt

record IsOf (part receipt : ℕ) (content : Option Content) (row : Row) : Type 0 where
  whose : row.part ≡ part
  at : row.receipt ≡ receipt
  something : is_some content ≡ true

quotation_of_part : (lot part : ℕ) (state : Option QState) (receipt : ℕ) (content : Option Content) (row : Row)
    → quotation lot part state receipt content ≡ Some row → IsOf part receipt content row
quotation_of_part lot part state receipt None row is = absurd (cc)
quotation_of_part lot part state receipt (Some content) row is = by_tests (is_halted state) (displayed_size lot content.shares == 0) is
  where
    by_tests : (halted none : Bool) → (if halted then None
        else (if none then None
        else Some (record {
          part = part;
          price = content.price;
          size = displayed_size lot content.shares;
          receipt = receipt;
          protected = is_automated state;
        }))) ≡ Some row → IsOf part receipt (Some content) row
    by_tests true none is = absurd (cc)
    by_tests false true is = absurd (cc)
    by_tests false false is = record { whose = cc; at = cc; something = refl }

row_is_at : (board : Board) (sym : ℕ) (side : Side) (row : Row) → Contains (rows_held board sym side) row → IsRowAt board sym side row
row_is_at board symbol side row among =
    let found = among_answers (row_held board symbol side) 0 board.sizes.parts row among in
    let part : ℕ = found.0 in
    let of = quotation_of_part (slice_index board.lots symbol) part (state_in board symbol part) (held_at board symbol side part).receipt
    (content_on board symbol side part) row (sym (row_at board symbol side part) ∙ found.1.2) in
    record {
      in_parts = omega (arith, of.whose, found.1.1);
      something = subst (λ (p : ℕ). stands board symbol side p ≡ true) (sym of.whose) of.something;
      receipt = of.at ∙ ap (λ (p : ℕ). (held_at board symbol side p).receipt) (sym of.whose);
    }

-- the order of receipts decides nothing else
ranks_again : (side : Side) (row other : Row) (n m : ℕ) → nat_lt row.receipt other.receipt ≡ nat_lt n m
    → ranks_above side (record row { receipt = n }) (record other { receipt = m }) ≡ ranks_above side row other
ranks_again side row other n m same =
    ap (λ (b : Bool). better_price side row.price other.price
    || (row.price == other.price && (nat_lt other.size row.size || (row.size == other.size && b)))) (sym same)

renumbered_unseen : (board : Board) (sym : ℕ) (side : Side) (rows : List Row)
    → map unnumbered (map (renumbered board sym side) rows) ≡ map unnumbered rows
renumbered_unseen board symbol side [] = refl
renumbered_unseen board symbol side (row ∷ rows) =
    ap (λ (rest : List Row). unnumbered row ∷ rest) (renumbered_unseen board symbol side rows)

pub show_same : (one other : Board) (sym : ℕ) → ShowAlike one other sym → ShowSame one other sym
show_same one other symbol alike = λ side.
    let rows : List Row = rows_held one symbol side in
    let order : (row second : Row) → Contains rows row → Contains rows second
    → ranks_above side (renumbered other symbol side row) (renumbered other symbol side second) ≡ ranks_above side row second =
    λ row second among among_too.
    let at = row_is_at one symbol side row among in
    let at_too = row_is_at one symbol side second among_too in
    ranks_again side row second (held_at other symbol side row.part).receipt (held_at other symbol side second.part).receipt
    (rw (at.receipt, at_too.receipt)
    (alike.order side side row.part second.part at.in_parts at_too.in_parts at.something at_too.something)) in
    sym (ap (λ (all : List Row). map unnumbered (ranked side all)) (rows_again one other symbol side alike)
    ∙ ap (map unnumbered) (ranked-map side (renumbered other symbol side) rows order)
    ∙ renumbered_unseen other symbol side (ranked side rows))

-- and in any round lot
slice_get-set_alike : (xs ys : List ℕ) (i x : ℕ) → slice_get xs i ≡ slice_get ys i
    → slice_get (slice_set xs i x) i ≡ slice_get (slice_set ys i x) i
slice_get-set_alike [] [] i x same = refl
slice_get-set_alike [] (y ∷ ys) zero x same = absurd (cc)
slice_get-set_alike [] (y ∷ ys) (suc i) x same = slice_get-set_alike [] ys i x same
slice_get-set_alike (z ∷ xs) [] zero x same = absurd (cc)
slice_get-set_alike (z ∷ xs) [] (suc i) x same = slice_get-set_alike xs [] i x same
slice_get-set_alike (z ∷ xs) (y ∷ ys) zero x same = refl
slice_get-set_alike (z ∷ xs) (y ∷ ys) (suc i) x same = slice_get-set_alike xs ys i x same

alike_in_lot : (one other : Board) (sym lot : ℕ) → ShowAlike one other sym
    → ShowAlike (after one (Lot sym lot)) (after other (Lot sym lot)) sym
alike_in_lot one other symbol lot alike = record {
  roster = alike.roster;
  lot = slice_get-set_alike one.lots other.lots symbol lot alike.lot;
  contents = alike.contents;
  states = alike.states;
  order = alike.order;
}

pub show_same_in : (one other : Board) (sym lot : ℕ) → ShowAlike one other sym
    → ShowSame (after one (Lot sym lot)) (after other (Lot sym lot)) sym
show_same_in one other symbol lot alike =
    show_same (after one (Lot symbol lot)) (after other (Lot symbol lot)) symbol (alike_in_lot one other symbol lot alike)
