-- Executions that are appended one by one.
use Rattle.std.proofs.Common.{◌≡◌, ◌+◌, ◌<◌, ◌++◌, ◌∷◌, [], ℕ, List, Option, ap, drop, length, map, refl, sym, ◌∙◌, arith}
use Rattle.std.proofs.lemmas.List.{append_assoc, drop_more, length-append, length-map, map-append}
use Rattle.nms_trades.specs.declared.execution.Execution.{Execution}
use Rattle.nms_trades.specs.declared.finding.Finding.{Finding}
use Rattle.nms_drawing.specs.Trades.{Shown, execution_row, execution_rows, ids_of, passed_from, passed_rows_from, shown_if, shown_of}
use Rattle.nms_drawing.specs.declared.rows.Window.{Window}

-- the executions that are left, and one of them before the others
pub next_shown : (window : Window) (executions : List Execution) (found : List (Option Finding)) (place : ℕ) (execution : Execution)
    (finding : Option Finding) → drop place executions ≡ execution ∷ drop (place + 1) executions
    → drop place found ≡ finding ∷ drop (place + 1) found
    → shown_of window (drop place executions) (drop place found)
    ≡ shown_if window execution finding ++ shown_of window (drop (place + 1) executions) (drop (place + 1) found)
next_shown window executions found place execution finding one other =
    ap (λ (es : List Execution). shown_of window es (drop place found)) one
    ∙ ap (λ (fs : List (Option Finding)). shown_of window (execution ∷ drop (place + 1) executions) fs) other

-- the quotations of some executions and of more
pub passed_more : (n : ℕ) (first rest : List Shown)
    → passed_rows_from n (first ++ rest) ≡ passed_rows_from n first ++ passed_rows_from (n + length first) rest
passed_more n [] rest = ap (λ (k : ℕ). passed_rows_from k rest) (omega arith)
passed_more n (shown ∷ first) rest =
    let own : List (List ℕ) = passed_from n shown 0 shown.finding.passed.items in
    let more : List (List ℕ) = passed_rows_from (n + 1) first in
    let count : n + 1 + length first ≡ n + length (shown ∷ first) = omega arith in
    ap (λ (xs : List (List ℕ)). own ++ xs) (passed_more (n + 1) first rest)
    ∙ sym (append_assoc own more (passed_rows_from (n + 1 + length first) rest))
    ∙ ap (λ (k : ℕ). (own ++ more) ++ passed_rows_from k rest) count

-- rows of some executions are appended, and those of the others are left
pub mapped_turn : {X Y : Type 0} (f : X → Y) (out whole last : List Y) (left first rest : List X) → left ≡ first ++ rest
    → last ≡ out ++ map f first → out ++ map f left ≡ whole → last ++ map f rest ≡ whole
mapped_turn {X} {Y} f out whole last left first rest parts added is =
    ap (λ (ys : List Y). ys ++ map f rest) added ∙ append_assoc out (map f first) (map f rest)
    ∙ ap (λ (ys : List Y). out ++ ys) (sym (ap (λ (xs : List X). map f xs) parts ∙ map-append f first rest)) ∙ is

pub passed_turn : (n : ℕ) (out whole last : List (List ℕ)) (left first rest : List Shown) (m : ℕ) → m ≡ n + length first → left ≡ first ++ rest
    → last ≡ out ++ passed_rows_from n first → out ++ passed_rows_from n left ≡ whole → last ++ passed_rows_from m rest ≡ whole
passed_turn n out whole last left first rest m more parts added is =
    let own : List (List ℕ) = passed_rows_from n first in
    ap (λ (k : ℕ). last ++ passed_rows_from k rest) more
    ∙ ap (λ (ys : List (List ℕ)). ys ++ passed_rows_from (n + length first) rest) added
    ∙ append_assoc out own (passed_rows_from (n + length first) rest)
    ∙ ap (λ (ys : List (List ℕ)). out ++ ys) (sym (ap (λ (xs : List Shown). passed_rows_from n xs) parts ∙ passed_more n first rest)) ∙ is
