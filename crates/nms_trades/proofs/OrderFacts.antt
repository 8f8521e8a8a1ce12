-- One record more: its answer comes last.
use Rattle.std.proofs.Common.{◌≡◌, ◌≤◌, ◌<◌, ◌+◌, ◌++◌, ◌∷◌, [], List, ℕ, suc, false, cond, drop, take, map, length, nat_lt}
use Rattle.std.proofs.Common.{refl, sym, ap, ◌∙◌, arith, append_assoc, Option, Some}
use Rattle.std.specs.List.{range_with_len}
use Rattle.std.specs.Prelude.{All}
use Rattle.std.proofs.lemmas.Bool.{le-ltb, lt-ltb}
use Rattle.std.proofs.lemmas.List.{drop-append-le, drop_all, length_push, map-append, map-id, take-append-le, take_all}
use Rattle.std.proofs.lemmas.List.Elements.{All-drop, All-head, All-push, All-tail, All-weaker}
use Rattle.std.proofs.lemmas.List.FromFn.{map-range_with_len_more}
use Rattle.std.proofs.lemmas.List.Sums.{prefix_len-le-length}
use Rattle.nms_trades.specs.Answers.{AreNumbered, count_before, found_at, in_order, is_before, number_of, refused_left}
use Rattle.nms_trades.specs.Answers.Answer.{Judged, Refused}
use Rattle.nms_trades.specs.declared.execution.Execution.{Execution}
use Rattle.nms_trades.specs.declared.execution_file.Refusal.{Refusal}
use Rattle.nms_trades.specs.declared.finding.Finding.{Finding}

-- all refused records of lower numbers are before
count_all : (number : ℕ) (refused : List Refusal) → All (λ refusal. refusal.number < number) refused
    → count_before (Some number) refused ≡ length refused
count_all number [] below = refl
count_all number (one ∷ rest) below =
    let first = lt-ltb one.number number (All-head (λ refusal. refusal.number < number) one rest below) in
    let later = count_all number rest (All-tail (λ refusal. refusal.number < number) one rest below) in
    ap (λ b. cond b (1 + count_before (Some number) rest) 0) first ∙ omega (arith, later)

-- an execution of a higher number comes last
order-execution : (found : List (Option Finding)) (place : ℕ) (before : List Execution) (refused : List Refusal) (execution : Execution)
    → All (λ refusal. refusal.number < execution.number) refused
    → in_order found place (before ++ execution ∷ []) refused
    ≡ in_order found place before refused ++ Judged execution (found_at found (place + length before)) ∷ []
unfolding in_order
order-execution found place [] refused execution below =
    let count = count_before (Some execution.number) refused in
    let all = count_all execution.number refused below in
    let same : place ≡ place + 0 = omega arith in
    ap (λ first. map Refused first ++ Judged execution (found_at found place) ∷ map Refused (drop count refused))
    (take_all count refused (omega (arith, all)))
    ∙ ap (λ rest. map Refused refused ++ Judged execution (found_at found place) ∷ map Refused rest) (drop_all count refused (omega
    (arith, all)))
    ∙ ap (λ at. map Refused refused ++ Judged execution (found_at found at) ∷ []) same
order-execution found place (first ∷ before) refused execution below =
    let left = refused_left (Some first.number) refused in
    let stands = map Refused (take (count_before (Some first.number) refused) refused) in
    let own = Judged first (found_at found place) in
    let rest = order-execution found (suc place) before left execution
    (All-drop (λ refusal. refusal.number < execution.number) (count_before (Some first.number) refused) refused below) in
    let same : suc place + length before ≡ place + length (first ∷ before) = omega arith in
    ap (λ later. stands ++ own ∷ later) rest
    ∙ sym (append_assoc stands (own ∷ in_order found (suc place) before left)
    (Judged execution (found_at found (suc place + length before)) ∷ []))
    ∙ ap (λ at. (stands ++ own ∷ in_order found (suc place) before left) ++ Judged execution (found_at found at) ∷ []) same

-- one that is not before is not counted
count_more : (number : Option ℕ) (refused : List Refusal) (one : Refusal) → is_before number one ≡ false
    → count_before number (refused ++ one ∷ []) ≡ count_before number refused
count_more number [] one after = ap (λ b. cond b (1 + 0) 0) after
count_more number (first ∷ rest) one after = ap (λ n. cond (is_before number first) (1 + n) 0) (count_more number rest one after)

-- a refused record of a higher number comes last
order-refusal : (found : List (Option Finding)) (place : ℕ) (executions : List Execution) (before : List Refusal) (one : Refusal)
    → All (λ execution. execution.number < one.number) executions
    → in_order found place executions (before ++ one ∷ []) ≡ in_order found place executions before ++ Refused one ∷ []
unfolding in_order
order-refusal found place [] before one below = map-append Refused before (one ∷ [])
order-refusal found place (first ∷ rest) before one below =
    let number = Some first.number in
    let count = count_before number before in
    let high : first.number < one.number = All-head (λ (execution : Execution). execution.number < one.number) first rest below in
    let after : nat_lt one.number first.number ≡ false = le-ltb one.number first.number (omega (arith, high)) in
    let counted = count_more number before one after in
    let within = prefix_len-le-length (is_before number) before in
    let own = Judged first (found_at found place) in
    let stands : take (count_before number (before ++ one ∷ [])) (before ++ one ∷ []) ≡ take count before =
    ap (λ n. take n (before ++ one ∷ [])) counted ∙ take-append-le count before (one ∷ []) within in
    let left : refused_left number (before ++ one ∷ []) ≡ refused_left number before ++ one ∷ [] =
    ap (λ n. drop n (before ++ one ∷ [])) counted ∙ drop-append-le count before (one ∷ []) within in
    let later = order-refusal found (suc place) rest (refused_left number before) one
    (All-tail (λ (execution : Execution). execution.number < one.number) first rest below) in
    ap (λ xs. map Refused xs ++ own ∷ in_order found (suc place) rest (refused_left number (before ++ one ∷ []))) stands
    ∙ ap (λ xs. map Refused (take count before) ++ own ∷ in_order found (suc place) rest xs) left
    ∙ ap (λ xs. map Refused (take count before) ++ own ∷ xs) later
    ∙ sym (append_assoc (map Refused (take count before)) (own ∷ in_order found (suc place) rest (refused_left number before))
    (Refused one ∷ []))

-- one number more
range_more : (last : ℕ) → range_with_len 1 (last + 1) ≡ range_with_len 1 last ++ (last + 1) ∷ []
range_more last =
    sym (map-id (range_with_len 1 (last + 1))) ∙ map-range_with_len_more (λ k. k) 1 last (last + 1) (omega arith)
    ∙ ap (λ (ks : List ℕ). ks ++ (last + 1) ∷ []) (map-id (range_with_len 1 last))

-- no records have no numbers
pub numbered_none : AreNumbered 0 [] []
unfolding in_order
numbered_none = record {
  count = refl;
  executions_within = λ k d below. absurd (omega arith);
  refused_within = λ k d below. absurd
      (omega arith);
  order = λ found. refl;
}

-- one execution more
pub numbered_execution : (last : ℕ) (executions : List Execution) (refused : List Refusal) (execution : Execution)
    → execution.number ≡ last + 1 → AreNumbered last executions refused
    → AreNumbered (last + 1) (executions ++ execution ∷ []) refused
numbered_execution last executions refused execution own had = record {
  count = omega (arith, length_push executions execution, had.count);
  executions_within = All-push (λ (one : Execution). one.number ≤ last + 1) executions execution
      (All-weaker (λ (one : Execution). one.number ≤ last) (λ (one : Execution). one.number ≤ last + 1) (λ one low. omega (arith, low))
      executions had.executions_within)
      (omega (arith, own));
  refused_within = All-weaker (λ (one : Refusal). one.number ≤ last) (λ (one : Refusal). one.number ≤ last + 1) (λ one low. omega
      (arith, low)) refused had.refused_within;
  order = λ found.
      let below = All-weaker (λ (one : Refusal). one.number ≤ last) (λ (one : Refusal). one.number < execution.number)
      (λ one low. omega (arith, low, own)) refused had.refused_within in
      let answer = Judged execution (found_at found (0 + length executions)) in
      ap (map number_of) (order-execution found 0 executions refused execution below)
      ∙ map-append number_of (in_order found 0 executions refused) (answer ∷ [])
      ∙ ap (λ ks. ks ++ execution.number ∷ []) (had.order found)
      ∙ ap (λ n. range_with_len 1 last ++ n ∷ []) own
      ∙ sym (range_more last);
}

-- one refused record more
pub numbered_refusal : (last : ℕ) (executions : List Execution) (refused : List Refusal) (one : Refusal)
    → one.number ≡ last + 1 → AreNumbered last executions refused
    → AreNumbered (last + 1) executions (refused ++ one ∷ [])
numbered_refusal last executions refused one own had = record {
  count = omega (arith, length_push refused one, had.count);
  executions_within = All-weaker (λ (it : Execution). it.number ≤ last) (λ (it : Execution). it.number ≤ last + 1) (λ it low. omega
      (arith, low)) executions had.executions_within;
  refused_within = All-push (λ (it : Refusal). it.number ≤ last + 1) refused one
      (All-weaker (λ (it : Refusal). it.number ≤ last) (λ (it : Refusal). it.number ≤ last + 1) (λ it low. omega (arith, low)) refused
      had.refused_within)
      (omega (arith, own));
  order = λ found.
      let below = All-weaker (λ (it : Execution). it.number ≤ last) (λ (it : Execution). it.number < one.number)
      (λ it low. omega (arith, low, own)) executions had.executions_within in
      ap (map number_of) (order-refusal found 0 executions refused one below)
      ∙ map-append number_of (in_order found 0 executions refused) (Refused one ∷ [])
      ∙ ap (λ ks. ks ++ one.number ∷ []) (had.order found)
      ∙ ap (λ n. range_with_len 1 last ++ n ∷ []) own
      ∙ sym (range_more last);
}
