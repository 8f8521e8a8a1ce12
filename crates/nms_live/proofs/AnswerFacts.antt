-- What follows of orders with their numbers.
use Rattle.std.proofs.Common.{ℕ, ◌≡◌, ◌<◌, ◌+◌, ◌++◌, List, [], ◌∷◌, length, take, get_or, suc, ap, ◌∙◌, arith}
use Rattle.std.specs.List.{enumerate_from}
use Rattle.std.proofs.Math.Seq.{take-suc}
use Rattle.std.proofs.lemmas.List.{length-take-le}
use Rattle.nms_live.specs.Answering.{numbered}
use Rattle.nms_quote.specs.declared.desk_order.DeskOrder.{DeskOrder}

enumerate_append : {X : Type 0} (n : ℕ) (xs ys : List X) → enumerate_from n (xs ++ ys) ≡ enumerate_from n xs
    ++ enumerate_from (n + length xs) ys
enumerate_append n [] ys = ap (λ (k : ℕ). enumerate_from k ys) (omega arith)
enumerate_append n (x ∷ xs) ys =
    let k : n + 1 + length xs ≡ n + length (x ∷ xs) = omega arith in
    ap (λ (l : List (ℕ × _)). (n, x) ∷ l) (enumerate_append (n + 1) xs ys
    ∙ ap (λ (m : ℕ). enumerate_from (n + 1) xs ++ enumerate_from m ys) k)

-- the first n elements, and one more
pub take_more : {X : Type 0} (xs : List X) (place : ℕ) (x : X) → place < length xs → get_or xs place x ≡ x
    → take (place + 1) xs ≡ take place xs ++ x ∷ []
take_more xs place x below is =
    let up : place + 1 ≡ suc place = omega arith in
    ap (λ (k : ℕ). take k xs) up ∙ take-suc xs place x below ∙ ap (λ (y : _). take place xs ++ y ∷ []) is

-- one order more, with its number
pub numbered_more : (orders : List DeskOrder) (place : ℕ) (order : DeskOrder) → place < length orders → get_or orders place order ≡ order
    → numbered (take (place + 1) orders) ≡ numbered (take place orders) ++ (place, order) ∷ []
numbered_more orders place order below is =
    let count : 0 + length (take place orders) ≡ place = omega (arith, length-take-le place orders (omega (arith, below))) in
    ap numbered (take_more orders place order below is) ∙ enumerate_append 0 (take place orders) (order ∷ [])
    ∙ ap (λ (k : ℕ). numbered (take place orders) ++ (k, order) ∷ []) count
