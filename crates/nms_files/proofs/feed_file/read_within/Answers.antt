-- `read_within`: clause `all`.
use Rattle.std.proofs.Common.{rules, ◌≡◌, ◌∙◌, ◌≤◌, ◌+◌, ◌++◌, ℕ, List, [], Option, Some, None, IfSome, length, option_map, take, min}
use Rattle.std.proofs.lemmas.Grind.{common_steps}
use Rattle.std.proofs.Common.{subst, ap, arith}
use Rattle.std.proofs.lemmas.List.{length-take, take_all}
use Rattle.std.specs.Io.Take.{take_inner, take_limit, take_remaining}
use Rattle.std.specs.declared.io.traits.Take.{Take}
use Rattle.nms_files.proofs.feed_file.read_within.Goals as goal

-- a beginning that is shorter than what was asked for is all that there is
whole : (left : Option (List ℕ)) (most : ℕ) (items : List ℕ) → IfSome (option_map (take (most + 1)) left) (λ xs. items ≡ xs)
    → length items ≤ most
    → IfSome left (λ all. items ≡ all)
whole None most items is few = tt
whole (Some all) most items is few =
    let cut : length items ≡ min (most + 1) (length all) = ap length is ∙ length-take (most + 1) all in
    is ∙ take_all (most + 1) all (omega (arith, cut, few))

begun : {R : Type 0} (remaining : R → Option (List ℕ)) (begin : Take R) (source : R) (most : ℕ) (before items : List ℕ)
    → take_limit begin ≡ most + 1 → take_inner begin ≡ source → before ≡ []
    → IfSome (take_remaining remaining begin) (λ xs. items ≡ before ++ xs) → length items ≤ most
    → IfSome (remaining source) (λ all. items ≡ all)
begun remaining begin source most before items limit inner none is few =
    whole (remaining source) most items
    (subst (λ r. IfSome (option_map (take (most + 1)) (remaining r)) (λ xs. items ≡ xs)) inner
    (subst (λ n. IfSome (option_map (take n) (remaining begin.inner)) (λ xs. items ≡ xs)) limit
    (subst (λ (start : List ℕ). IfSome (take_remaining remaining begin) (λ xs. items ≡ start ++ xs)) none is)))
    few

pub returns-in-Ok-clause-all : goal.returns-in-Ok-clause-all
returns-in-Ok-clause-all g c =
    let few : length c.read_to_end.new.buf.items ≤ c.args.most = search rules in
    begun g.R.Read.remaining c.take-begin.result c.args.source c.args.most c.new-bytes.result.items c.read_to_end.new.buf.items
    c.take-begin.ensures.limit c.take-begin.ensures.inner c.new-bytes.ensures.items c.in-Ok.ensures.bytes few

-- ---- goals that `grind` closes; the search that is tried before it takes longer

pub returns-in-Err-clause-refused : goal.returns-in-Err-clause-refused
returns-in-Err-clause-refused g c = grind (arith, common_steps)

pub returns-in-Ok-2-clause-refused : goal.returns-in-Ok-2-clause-refused
returns-in-Ok-2-clause-refused g c = grind (arith, common_steps)
