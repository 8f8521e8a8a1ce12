-- How sums over rows grow by one row.
use Rattle.std.proofs.Common.{ℕ, ◌≡◌, ◌<◌, ◌+◌, List, [], ◌∷◌, ◌++◌, length, take, get_or, refl, ap, sym, ◌∙◌, arith}
use Rattle.std.specs.Prelude.{ℤ, pos, ◌+ℤ◌}
use Rattle.std.proofs.lemmas.Int.{ints}
use Rattle.std.proofs.lemmas.List.{take_more}
use Rattle.nms_rules.specs.Assignment.{amount, total}
use Rattle.nms_rules.specs.Usable.{Usable}

pub total_none : (part : Usable → ℕ) → total part [] ≡ 0
unfolding total
total_none part = refl

pub amount_none : (part : Usable → ℤ) → amount part [] ≡ pos 0
unfolding amount
amount_none part = refl

total_push : (part : Usable → ℕ) (rows : List Usable) (row : Usable) → total part (rows ++ row ∷ []) ≡ total part rows + part row
unfolding total
total_push part [] row = omega arith
total_push part (first ∷ rows) row = omega (arith, total_push part rows row)

amount_push : (part : Usable → ℤ) (rows : List Usable) (row : Usable) → amount part (rows ++ row ∷ []) ≡ amount part rows +ℤ part row
unfolding amount
amount_push part [] row = omega (arith, ints)
amount_push part (first ∷ rows) row = omega (arith, ints, amount_push part rows row)

-- one more row
more : (rows : List Usable) (i : ℕ) (row : Usable) → i < length rows → row ≡ get_or rows i row → take (i + 1) rows ≡ take i rows ++ row ∷ []
more rows i row within is = take_more rows i row within ∙ ap (λ (one : Usable). take i rows ++ one ∷ []) (sym is)

pub total_more : (part : Usable → ℕ) (rows : List Usable) (i : ℕ) (row : Usable) → i < length rows → row ≡ get_or rows i row
    → total part (take (i + 1) rows) ≡ total part (take i rows) + part row
total_more part rows i row within is = ap (total part) (more rows i row within is) ∙ total_push part (take i rows) row

pub amount_more : (part : Usable → ℤ) (rows : List Usable) (i : ℕ) (row : Usable) → i < length rows → row ≡ get_or rows i row
    → amount part (take (i + 1) rows) ≡ amount part (take i rows) +ℤ part row
amount_more part rows i row within is = ap (amount part) (more rows i row within is) ∙ amount_push part (take i rows) row
