-- `by_place`: clause `order`, by `sorted_order`; clause `all`, by `falls_tested` and `rows_sorted`.
use Rattle.std.proofs.Common.{rules, sym, ◌∙◌, ◌≡◌, false}
use Rattle.std.proofs.lemmas.List.Sorted.{IsNonDecreasingBy-from_sort_by_key}
use Rattle.nms_board.specs.declared.row.Row.{Row}
use Rattle.nms_board.proofs.GivenRanks.{falls_tested, sorted_order}
use Rattle.nms_board.proofs.GivenWhole.{rows_sorted}
use Rattle.nms_board.proofs.given.by_place.Goals as goal

pub returns-then-are_rows-clause-order : goal.returns-then-are_rows-clause-order
returns-then-are_rows-clause-order c =
    sorted_order c.args.side c.args.in_order.now c.unwrap-rows.result.items c.as_mut_slice.result.now c.sort_unstable_by_key.new.self
    (search rules) (search rules) (search rules) c.sort_unstable_by_key.ensures.permutation c.sort_unstable_by_key.ensures.len

pub returns-then-not-falls-clause-all : goal.returns-then-not-falls-clause-all
returns-then-not-falls-clause-all c = λ rows are is.
    let told : c.falls.result ≡ false = search rules in
    sym told ∙ c.falls.ensures ∙ falls_tested c.args.side c.args.in_order.now is.falling

pub returns-else-are_rows-clause-all : goal.returns-else-are_rows-clause-all
returns-else-are_rows-clause-all c = λ rows are is.
    let told : c.are_rows.result ≡ false = search rules in
    let sorted = IsNonDecreasingBy-from_sort_by_key (λ (row : Row). row.part) _ c.sort_unstable_by_key.ensures.sorted
    (λ a r f called. search rules) in
    sym told ∙ c.are_rows.ensures.1 (rw c.as_slice.ensures.value (rows_sorted c.args.side rows c.args.in_order.now
    c.unwrap-rows.result.items c.as_mut_slice.result.now c.sort_unstable_by_key.new.self are is (search rules) (search rules)
    c.sort_unstable_by_key.ensures.permutation c.sort_unstable_by_key.ensures.len sorted))
