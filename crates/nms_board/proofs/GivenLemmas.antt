-- `are_rows`: it is `AreRows` of the rows, tested. One row after another, by `all_pass` and `all_passed`.
use Rattle.std.proofs.Common.{◌≡◌, ◌≢◌, zero, suc, ◌+◌, ◌<◌, ◌==◌, ◌&&◌, Bool, true, false, not, nat_lt, List, [], ◌∷◌, length, map}
use Rattle.std.proofs.Common.{get_or, refl, ap, arith}
use Rattle.std.specs.Prelude.{All, AllPairs}
use Rattle.std.specs.List.{list_all}
use Rattle.std.proofs.lemmas.Bool.{and_parts, and_from, not-true, ltb-true, lt-ltb, eqb-false, ne_eqb}
use Rattle.std.proofs.lemmas.List.{get_or-map, length-map}
use Rattle.std.proofs.lemmas.List.Elements.{All-cons, All-head, All-tail}
use Rattle.std.proofs.lemmas.List.Kept.{AllPairs-cons, AllPairs-from_increasing}
use Rattle.nms_board.specs.Given.{are_rows, precedes, precedes_all}
use Rattle.nms_board.specs.View.{AreRows}
use Rattle.nms_board.specs.declared.row.Row.{Row}

-- ---- a test of all elements

pub all_pass : {X : Type 0} (test : X → Bool) (xs : List X) → list_all test xs ≡ true → All (λ x. test x ≡ true) xs
all_pass test [] e = λ k d within. absurd (omega arith)
all_pass test (x ∷ xs) e =
    let both = and_parts (test x) (list_all test xs) e in
    All-cons (λ x. test x ≡ true) x xs both.0 (all_pass test xs both.1)

pub all_passed : {X : Type 0} (test : X → Bool) (xs : List X) → All (λ x. test x ≡ true) xs → list_all test xs ≡ true
all_passed test [] each = refl
all_passed test (x ∷ xs) each =
    and_from (test x) (list_all test xs) (All-head (λ x. test x ≡ true) x xs each)
    (all_passed test xs (All-tail (λ x. test x ≡ true) x xs each))

-- ---- rows by place, as pairs

abbrev pub Precedes : Row → Row → Type 0
Precedes row other = (row.part < other.part) × (row.receipt ≢ other.receipt)

pub record AreApart (rows : List Row) : Type 0 where
  pub sizes : All (λ row. 0 < row.size) rows
  pub pairs : AllPairs Precedes rows

found : (row other : Row) → precedes row other ≡ true → Precedes row other
found row other e =
    let both = and_parts (nat_lt row.part other.part) (not (row.receipt == other.receipt)) e in
    (ltb-true row.part other.part both.0, eqb-false row.receipt other.receipt (not-true (row.receipt == other.receipt) both.1))

tested : (row other : Row) → Precedes row other → precedes row other ≡ true
tested row other h =
    and_from (nat_lt row.part other.part) (not (row.receipt == other.receipt)) (lt-ltb row.part other.part h.0)
    (ap not (ne_eqb row.receipt other.receipt h.1))

apart_found : (rows : List Row) → are_rows rows ≡ true → AreApart rows
unfolding are_rows
apart_found [] e = record { sizes = λ k d within. absurd (omega arith); pairs = λ i j d lt within. absurd (omega arith) }
apart_found (row ∷ rows) e =
    let size = and_parts (not (row.size == 0)) (precedes_all row rows && are_rows rows) e in
    let rest = and_parts (precedes_all row rows) (are_rows rows) size.1 in
    let apart = apart_found rows rest.1 in let before = all_pass (precedes row) rows rest.0 in
    let some : 0 < row.size = omega (arith, eqb-false row.size 0 (not-true (row.size == 0) size.0)) in
    record {
      sizes = All-cons (λ row. 0 < row.size) row rows some apart.sizes;
      pairs = AllPairs-cons Precedes row rows (λ k d within. found row (get_or rows k d) (before k d within)) apart.pairs;
    }

apart_tested : (rows : List Row) → AreApart rows → are_rows rows ≡ true
unfolding are_rows
apart_tested [] apart = refl
apart_tested (row ∷ rows) apart =
    let some : 0 < row.size = All-head (λ row. 0 < row.size) row rows apart.sizes in
    let more : AreApart rows = record {
      sizes = All-tail (λ row. 0 < row.size) row rows apart.sizes;
      pairs = λ i j d lt within. apart.pairs (suc i) (suc j) d (omega arith) (omega arith);
    } in
    let before : precedes_all row rows ≡ true = all_passed (precedes row) rows
    (λ k d within. tested row (get_or rows k d) (apart.pairs zero (suc k) d (omega arith) (omega arith))) in
    and_from (not (row.size == 0)) (precedes_all row rows && are_rows rows) (ap not (ne_eqb row.size 0 (λ e. omega (arith, some, e))))
    (and_from (precedes_all row rows) (are_rows rows) before (apart_tested rows more))

no_row : Row
no_row = record { price = 0; receipt = 0; size = 0; part = 0; protected = false }

pub rows_apart : (rows : List Row) → AreRows rows → AreApart rows
rows_apart rows are = record {
  sizes = are.sizes;
  pairs = λ i j d lt within. (
    let h = AllPairs-from_increasing (map (λ row. row.part) rows) are.rising i j 0 lt
        (omega (arith, within, length-map rows (λ row. row.part))) in
        omega (
          arith,
          h,
          get_or-map (λ row. row.part) rows i d 0 (omega (arith, lt, within)),
          get_or-map (λ row. row.part) rows j d 0 within,
        ),
    are.receipts i j d lt within,
  );
}

apart_rows : (rows : List Row) → AreApart rows → AreRows rows
apart_rows rows apart = record {
  rising = λ k below.
      let within : k + 1 < length rows = omega (arith, below, length-map rows (λ row. row.part)) in
      let next = apart.pairs k (k + 1) no_row (omega arith) within in
      omega (
        arith,
        next.0,
        get_or-map (λ row. row.part) rows k no_row 0 (omega (arith, within)),
        get_or-map (λ row. row.part) rows (k + 1) no_row 0 within,
      );
  sizes = apart.sizes;
  receipts = λ i j d lt within. (apart.pairs i j d lt within).1;
}

-- ---- the test

pub rows_found : (rows : List Row) → are_rows rows ≡ true → AreRows rows
rows_found rows e = apart_rows rows (apart_found rows e)

pub rows_tested : (rows : List Row) → AreRows rows → are_rows rows ≡ true
rows_tested rows are = apart_tested rows (rows_apart rows are)
