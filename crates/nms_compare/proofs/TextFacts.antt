-- The sum of the counts so far.
use Rattle.std.proofs.Common.{ℕ, ◌≡◌, ◌∙◌, ◌+◌, ◌<◌, ap, sym, take, length, get_or, List}
use Rattle.std.specs.List.{sum_by}
use Rattle.std.proofs.lemmas.List.Sums.{sum_by_more}

-- the sum of one more
pub sum_more : {X : Type 0} (f : X → ℕ) (xs : List X) (i : ℕ) (d : X) (before after : ℕ) → i < length xs
    → before ≡ sum_by f (take i xs) → after ≡ before + f (get_or xs i d) → after ≡ sum_by f (take (i + 1) xs)
sum_more f xs i d before after within was is =
    is ∙ ap (λ n. n + f (get_or xs i d)) was ∙ sym (sum_by_more f xs i d within)
