-- Rows that are appended place by place, and change by change.
use Rattle.std.proofs.Common.{◌≡◌, ◌+◌, ◌-◌, ◌<◌, ◌++◌, ◌∷◌, ℕ, suc, List, ap, drop, sym, ◌∙◌, arith}
use Rattle.std.specs.List.{flat_map, range_with_len}
use Rattle.std.proofs.lemmas.List.{append_assoc}
use Rattle.nms_quote.specs.Tape.{Tape}
use Rattle.nms_quote.specs.declared.change.Change.{Change}
use Rattle.nms_board.specs.Cells.{Board, after}
use Rattle.nms_drawing.specs.Rows.{along}

-- one place more of a range
pub turn : {X : Type 0} (out whole : List X) (f : ℕ → List X) (place end : ℕ) → place < end
    → out ++ flat_map f (range_with_len place (end - place)) ≡ whole
    → (out ++ f place) ++ flat_map f (range_with_len (place + 1) (end - (place + 1))) ≡ whole
turn {X} out whole f place end below is =
    let more : end - place ≡ suc (end - (place + 1)) = omega (arith, below) in
    append_assoc out (f place) (flat_map f (range_with_len (place + 1) (end - (place + 1))))
    ∙ ap (λ (xs : List X). out ++ xs) (sym (ap (λ (n : ℕ). flat_map f (range_with_len place n)) more)) ∙ is

-- the same, if the place was read as another number, which is the same one
pub turn_at : {X : Type 0} (out whole last : List X) (f : ℕ → List X) (at place end : ℕ) → at ≡ place → place < end
    → last ≡ out ++ f at → out ++ flat_map f (range_with_len place (end - place)) ≡ whole
    → last ++ flat_map f (range_with_len (place + 1) (end - (place + 1))) ≡ whole
turn_at {X} out whole last f at place end same below added is =
    let own : last ≡ out ++ f place = added ∙ ap (λ (n : ℕ). out ++ f n) same in
    ap (λ (xs : List X). xs ++ flat_map f (range_with_len (place + 1) (end - (place + 1)))) own ∙ turn out whole f place end below is

-- one change more
pub next_change : (rows : (was board : Board) → Change → List (List ℕ)) (out whole last : List (List ℕ)) (was board : Board)
    (changes : Tape) (place : ℕ) (change : Change) → drop place changes ≡ change ∷ drop (place + 1) changes → board ≡ after was change
    → last ≡ out ++ rows was board change → out ++ along rows was (drop place changes) ≡ whole
    → last ++ along rows board (drop (place + 1) changes) ≡ whole
next_change rows out whole last was board changes place change there moved added is =
    let rest : List (List ℕ) = along rows board (drop (place + 1) changes) in
    ap (λ (xs : List (List ℕ)). xs ++ rest) added ∙ append_assoc out (rows was board change) rest
    ∙ ap (λ (xs : List (List ℕ)). out ++ xs)
    (ap (λ (b : Board). rows was b change ++ along rows b (drop (place + 1) changes)) moved ∙ sym (ap (along rows was) there)) ∙ is
