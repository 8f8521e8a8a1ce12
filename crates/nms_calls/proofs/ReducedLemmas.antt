-- What holds of rows holds of what is left of them.
use Rattle.std.specs.Prelude.{All, AllPairs}
use Rattle.std.proofs.Common.{◌≡◌, ◌≢◌, ◌==◌, ℕ, suc, ◌+◌, ◌<◌, ◌≤◌, Bool, true, false, List, [], ◌∷◌, length, map, get_or, Option, Some, None}
use Rattle.std.proofs.Common.{IfSome, cond, slice_index, refl, sym, ◌∙◌, arith}
use Rattle.std.specs.List.{cons_option, filter_map}
use Rattle.std.proofs.lemmas.Bool.{eqb-false}
use Rattle.std.proofs.lemmas.List.{get_or-map, length-map}
use Rattle.std.proofs.lemmas.List.Elements.{All-cons, All-head, All-tail}
use Rattle.std.proofs.lemmas.List.Kept.{AllPairs-cons, AllPairs-from_increasing}
use Rattle.nms_board.specs.View.{AreRows}
use Rattle.nms_board.specs.declared.row.Row.{Row}
use Rattle.nms_calls.specs.ViewReduced.{reduced_row, reduced_rows, reduced_size}

-- ---- a list of which some elements are kept, altered

all-cons_option : {Y : Type 0} (Q : Y → Type 0) (o : Option Y) (ys : List Y) → IfSome o Q → All Q ys → All Q (cons_option o ys)
all-cons_option Q None ys one all = all
all-cons_option Q (Some y) ys one all = All-cons Q y ys one all

pub all-filter_map : {X Y : Type 0} (P : X → Type 0) (Q : Y → Type 0) (f : X → Option Y) → ((x : X) → P x → IfSome (f x) Q)
    → (xs : List X) → All P xs → All Q (filter_map f xs)
all-filter_map P Q f keeps [] all = λ k d below. absurd (omega arith)
all-filter_map P Q f keeps (x ∷ xs) all =
    all-cons_option Q (f x) (filter_map f xs) (keeps x (All-head P x xs all)) (all-filter_map P Q f keeps xs (All-tail P x xs all))

pairs-cons_option : {Y : Type 0} (S : Y → Y → Type 0) (o : Option Y) (ys : List Y) → IfSome o (λ y. All (S y) ys) → AllPairs S ys
    → AllPairs S (cons_option o ys)
pairs-cons_option S None ys one pairs = pairs
pairs-cons_option S (Some y) ys one pairs = AllPairs-cons S y ys one pairs

-- what a kept element has to all that are kept of others
one_to_all : {X Y : Type 0} (P : X → Type 0) (S : Y → Y → Type 0) (f : X → Option Y) (o : Option Y)
    → ((x : X) → P x → IfSome o (λ y. IfSome (f x) (S y))) → (xs : List X) → All P xs → IfSome o (λ y. All (S y) (filter_map f xs))
one_to_all P S f None keeps xs all = tt
one_to_all P S f (Some y) keeps xs all = all-filter_map P (S y) f keeps xs all

pub pairs-filter_map : {X Y : Type 0} (R : X → X → Type 0) (S : Y → Y → Type 0) (f : X → Option Y)
    → ((x other : X) → R x other → IfSome (f x) (λ y. IfSome (f other) (S y)))
    → (xs : List X) → AllPairs R xs → AllPairs S (filter_map f xs)
pairs-filter_map R S f keeps [] pairs = λ i j d lt below. absurd (omega arith)
pairs-filter_map R S f keeps (x ∷ xs) pairs =
    pairs-cons_option S (f x) (filter_map f xs)
    (one_to_all (R x) S f (f x) (keeps x) xs (λ k d below. pairs 0 (suc k) d (omega arith) (omega arith)))
    (pairs-filter_map R S f keeps xs (λ i j d lt below. pairs (suc i) (suc j) d (omega arith) (omega arith)))

-- ---- what is left of a row

-- the row with fewer shares, but one at least
pub record IsLeftOf (most : List ℕ) (row left : Row) : Type 0 where
  pub part : left.part ≡ row.part
  pub price : left.price ≡ row.price
  pub receipt : left.receipt ≡ row.receipt
  pub protected : left.protected ≡ row.protected
  pub some : 0 < left.size
  pub shown : left.size ≤ row.size
  pub given : left.size ≤ slice_index most left.part

pub left_of : (most : List ℕ) (row : Row) → IfSome (reduced_row most row) (IsLeftOf most row)
left_of most row = by (reduced_size most row) refl (reduced_size most row == 0) refl
  where
    by : (size : ℕ) → size ≡ reduced_size most row → (none : Bool) → (size == 0) ≡ none
        → IfSome (cond none None (Some (record row { size = size }))) (IsLeftOf most row)
    by size is true e = tt
    by size is false e = record {
      part = refl;
      price = refl;
      receipt = refl;
      protected = refl;
      some = let other = eqb-false size 0 e in omega (arith, other);
      shown = omega (arith, is);
      given = omega (arith, is);
    }

-- ---- what is left of a side

no_row : Row
no_row = record { price = 0; receipt = 0; size = 0; part = 0; protected = false }

abbrev Precedes : Row → Row → Type 0
Precedes row other = (row.part < other.part) × (row.receipt ≢ other.receipt)

-- what is left of two rows
pub precede_still : (most : List ℕ) (row other : Row) → Precedes row other
    → IfSome (reduced_row most row) (λ left. IfSome (reduced_row most other) (Precedes left))
precede_still most row other before = by (reduced_row most row) (left_of most row) (reduced_row most other) (left_of most other)
  where
    by : (one : Option Row) → IfSome one (IsLeftOf most row) → (second : Option Row) → IfSome second (IsLeftOf most other)
        → IfSome one (λ left. IfSome second (Precedes left))
    by None is second also = tt
    by (Some left) is None also = tt
    by (Some left) is (Some right) also =
        (omega (arith, before.0, is.part, also.part), λ e. before.1 (sym is.receipt ∙ e ∙ also.receipt))

pub rows_left : (most : List ℕ) (rows : List Row) → AreRows rows → AreRows (reduced_rows most rows)
rows_left most rows are =
    let parts : AllPairs Precedes rows = λ i j d lt within. (rises i j d lt within, are.receipts i j d lt within) in
    let pairs = pairs-filter_map Precedes Precedes (reduced_row most) (precede_still most) rows parts in
    let left : List Row = reduced_rows most rows in
    record {
      rising = λ k below.
          let within : k + 1 < length left = omega (arith, below, length-map left (λ row. row.part)) in
          omega (
            arith,
            (pairs k (k + 1) no_row (omega arith) within).0,
            get_or-map (λ row. row.part) left k no_row 0 (omega (arith, within)),
            get_or-map (λ row. row.part) left (k + 1) no_row 0 within,
          );
      sizes = all-filter_map (λ row. 0 < row.size) (λ row. 0 < row.size) (reduced_row most) (λ row some. sizes_left row) rows are.sizes;
      receipts = λ i j d lt within. (pairs i j d lt within).1;
    }
  where
    rises : (i j : ℕ) (d : Row) → i < j → j < length rows → (get_or rows i d).part < (get_or rows j d).part
    rises i j d lt within =
        let h = AllPairs-from_increasing (map (λ row. row.part) rows) are.rising i j 0 lt
        (omega (arith, within, length-map rows (λ row. row.part))) in
        omega (
          arith,
          h,
          get_or-map (λ row. row.part) rows i d 0 (omega (arith, lt, within)),
          get_or-map (λ row. row.part) rows j d 0 within,
        )

    sizes_left : (row : Row) → IfSome (reduced_row most row) (λ left. 0 < left.size)
    sizes_left row = by (reduced_row most row) (left_of most row)
      where
        by : (left : Option Row) → IfSome left (IsLeftOf most row) → IfSome left (λ left. 0 < left.size)
        by None is = tt
        by (Some left) is = is.some
