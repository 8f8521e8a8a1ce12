-- The arrays of a side, written place by place.
use Rattle.std.proofs.Common.{◌≡◌, ◌<◌, ◌≤◌, ◌+◌, ◌∙◌, ℕ, List, [], ◌∷◌, Option, Some, None, length, ap, arith}
use Rattle.std.specs.List.{cons_option, filter_map, range_with_len}
use Rattle.std.proofs.lemmas.List.{length-set}
use Rattle.std.proofs.lemmas.List.FromFn.{length-range_with_len}
use Rattle.nms_quote.specs.declared.side_quote.Side.{Side}
use Rattle.nms_board.specs.Cells.{Board}
use Rattle.nms_board.specs.Shown.{row_held, rows_held}
use Rattle.nms_calls.specs.RowNumbers.{IsRowAt, with_row}
use Rattle.nms_calls.specs.declared.row_numbers.NmsRow.{NmsRow}
use Rattle.nms_calls.specs.declared.row_numbers.NmsRows.{NmsRows}
use Rattle.nms_calls.proofs.PlaceLemmas.{filled-one_more}

-- each array has 32 places
pub record AreWide (out : NmsRows) : Type 0 where
  pub prices : length out.price ≡ 32
  pub receipts : length out.receipt ≡ 32
  pub sizes : length out.size ≡ 32
  pub parts : length out.part ≡ 32
  pub flags : length out.is_protected ≡ 32

pub wide-with_row : (out : NmsRows) (k : ℕ) (row : NmsRow) → AreWide out → AreWide (with_row out k row)
wide-with_row out k row wide = record {
  prices = length-set out.price k row.price ∙ wide.prices;
  receipts = length-set out.receipt k row.receipt ∙ wide.receipts;
  sizes = length-set out.size k row.size ∙ wide.sizes;
  parts = length-set out.part k row.part ∙ wide.parts;
  flags = length-set out.is_protected k row.is_protected ∙ wide.flags;
}

-- one more place has the row that it should have
pub rows-one_more : (out : NmsRows) (k : ℕ) (row : NmsRow) (f : ℕ → NmsRow) → AreWide out → k < 32
    → ((i : ℕ) → i < k → IsRowAt out i (f i)) → row ≡ f k
    → (i : ℕ) → i < k + 1 → IsRowAt (with_row out k row) i (f i)
rows-one_more out k row f wide within before is i below =
    let price : ℕ → ℕ = λ j. (f j).price in let receipt : ℕ → ℕ = λ j. (f j).receipt in let size : ℕ → ℕ = λ j. (f j).size in
    let part : ℕ → ℕ = λ j. (f j).part in let flag : ℕ → ℕ = λ j. (f j).is_protected in
    record {
      price = filled-one_more out.price k row.price price (omega (arith, wide.prices)) (λ j h. (before j h).price) (ap (λ (r : NmsRow).
          r.price) is) i below;
      receipt = filled-one_more out.receipt k row.receipt receipt (omega (arith, wide.receipts)) (λ j h. (before j h).receipt) (ap (λ (r
          : NmsRow). r.receipt) is) i below;
      size = filled-one_more out.size k row.size size (omega (arith, wide.sizes)) (λ j h. (before j h).size) (ap (λ (r : NmsRow). r.size)
          is) i below;
      part = filled-one_more out.part k row.part part (omega (arith, wide.parts)) (λ j h. (before j h).part) (ap (λ (r : NmsRow). r.part)
          is) i below;
      is_protected = filled-one_more out.is_protected k row.is_protected flag (omega (arith, wide.flags)) (λ j h. (before j
          h).is_protected) (ap (λ (r : NmsRow). r.is_protected) is) i below;
    }

-- a side has at most one row for each participant

pub length-cons_option : {X : Type 0} (o : Option X) (xs : List X) → length (cons_option o xs) ≤ length xs + 1
length-cons_option None xs = omega arith
length-cons_option (Some x) xs = omega arith

pub length-filter_map : {X Y : Type 0} (f : X → Option Y) (xs : List X) → length (filter_map f xs) ≤ length xs
length-filter_map f [] = omega arith
length-filter_map f (x ∷ xs) =
    let rest : length (filter_map f xs) ≤ length xs = length-filter_map f xs in
    let more : length (cons_option (f x) (filter_map f xs)) ≤ length (filter_map f xs) + 1 = length-cons_option (f x) (filter_map f xs) in
    omega (arith, rest, more)

pub rows-few : (board : Board) (sym : ℕ) (side : Side) → board.sizes.parts ≤ 32 → length (rows_held board sym side) ≤ 32
rows-few board sym side narrow =
    let few : length (rows_held board sym side) ≤ length (range_with_len 0 board.sizes.parts) =
    length-filter_map (row_held board sym side) (range_with_len 0 board.sizes.parts) in
    let places : length (range_with_len 0 board.sizes.parts) ≡ board.sizes.parts = length-range_with_len 0 board.sizes.parts in
    omega (arith, few, places, narrow)
