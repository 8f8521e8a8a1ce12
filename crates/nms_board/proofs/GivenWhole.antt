-- Rows that a side shows are found again, by place, from their rank order.
use Rattle.std.proofs.Common.{◌≡◌, ◌≢◌, ℕ, ◌<◌, false, List, ◌++◌, length, map, take, drop, get_or, sym, ap, ◌∙◌, subst, arith}
use Rattle.std.proofs.Common.{nat_eq}
use Rattle.std.specs.Prelude.{AllPairs}
use Rattle.std.specs.List.{IsDistinct}
use Rattle.std.specs.List.Sorted.{IsNonDecreasingBy, IsPermutation}
use Rattle.std.proofs.lemmas.Bool.{ne_eqb, eqb-false}
use Rattle.std.proofs.lemmas.Bool.Decides.{nat_tests}
use Rattle.std.proofs.lemmas.List.{get_or-map, length-map}
use Rattle.std.proofs.lemmas.List.Sorted.{All-permutation, IsPermutation-map, IsPermutation-trans}
use Rattle.std.proofs.lemmas.Map.Keys.{IsDistinct-IsPermutation, IsDistinct-from_apart, IsStrictlyIncreasing-from_distinct, apart_from_distinct}
use Rattle.nms_quote.specs.declared.side_quote.Side.{Side}
use Rattle.nms_board.specs.Ranking.{IsRankOrder}
use Rattle.nms_board.specs.View.{AreRows}
use Rattle.nms_board.specs.declared.row.Row.{Row}
use Rattle.nms_board.proofs.GivenLemmas.{rows_apart}
use Rattle.nms_board.proofs.GivenRanks.{written_over}

no_row : Row
no_row = record { price = 0; receipt = 0; size = 0; part = 0; protected = false }

-- ---- a number of each row, no two alike, in any order of the rows

abbrev DifferBy : (Row → ℕ) → List Row → Type 0
DifferBy number rows = AllPairs (λ row other. number row ≢ number other) rows

flips : (x y : ℕ) → nat_eq x y ≡ nat_eq y x
flips x y = grind (arith, nat_tests)

distinct : (number : Row → ℕ) (rows : List Row) → DifferBy number rows → IsDistinct nat_eq (map number rows)
distinct number rows differ = IsDistinct-from_apart nat_eq (map number rows) (λ i j d lt within.
    let below : j < length rows = omega (arith, within, length-map rows number) in
    rw (get_or-map number rows i no_row d (omega (arith, lt, below)), get_or-map number rows j no_row d below)
    (ne_eqb (number (get_or rows i no_row)) (number (get_or rows j no_row)) (differ i j no_row lt below)))

differ : (number : Row → ℕ) (rows : List Row) → IsDistinct nat_eq (map number rows) → DifferBy number rows
differ number rows unlike i j d lt within e =
    let apart = apart_from_distinct nat_eq (map number rows) i j 0 unlike lt (omega (arith, within, length-map rows number)) in
    eqb-false (get_or (map number rows) i 0) (get_or (map number rows) j 0) apart
    (get_or-map number rows i d 0 (omega (arith, lt, within)) ∙ e ∙ sym (get_or-map number rows j d 0 within))

distinct_moved : (number : Row → ℕ) (rows new : List Row) → IsPermutation rows new → DifferBy number rows
    → IsDistinct nat_eq (map number new)
distinct_moved number rows new same unlike =
    IsDistinct-IsPermutation nat_eq flips (map number rows) (map number new) (IsPermutation-map number rows new same)
    (distinct number rows unlike)

-- ---- the rows of a side, sorted by place from any order, are such as a side shows

rows_again : (rows new : List Row) → AreRows rows → IsPermutation rows new → IsNonDecreasingBy (λ row. row.part) new → AreRows new
rows_again rows new are same up =
    let parts : DifferBy (λ row. row.part) rows = λ i j d lt within e.
    let before = ((rows_apart rows are).pairs i j d lt within).0 in omega (arith, before, e) in
    record {
      rising = IsStrictlyIncreasing-from_distinct (map (λ row. row.part) new)
          (λ i j d le within.
          let below : j < length new = omega (arith, within, length-map new (λ row. row.part)) in
          rw (get_or-map (λ row. row.part) new i no_row d (omega (arith, le, below)), get_or-map (λ row. row.part) new j no_row d below)
          (up i j no_row le below))
          (distinct_moved (λ row. row.part) rows new same parts);
      sizes = All-permutation (λ row. 0 < row.size) rows new same are.sizes;
      receipts = differ (λ row. row.receipt) new (distinct_moved (λ row. row.receipt) rows new same are.receipts);
    }

pub rows_sorted : (side : Side) (rows in_order items before new : List Row) → AreRows rows → IsRankOrder side rows in_order
    → items ≡ in_order → before ≡ items → IsPermutation before new → length new ≡ length before
    → IsNonDecreasingBy (λ row. row.part) new → AreRows (take (length items) (new ++ drop (length new) items))
rows_sorted side rows in_order items before new are order is was same long up =
    rw (written_over items new (long ∙ ap length was))
    (rows_again rows new are
    (IsPermutation-trans rows in_order new order.same (subst (λ xs. IsPermutation xs new) (was ∙ is) same)) up)
