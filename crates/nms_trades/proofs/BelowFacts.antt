-- One execution more has its answer; at the end all of them have. For the loops that go over the executions in order.
use Rattle.std.proofs.Common.{◌≡◌, ◌<◌, ◌≤◌, ◌+◌, ℕ, List, Option, Some, None, slice_get, slice_set, length, get_or}
use Rattle.std.proofs.Common.{arith, inl, inr, subst, sym, ap, ◌∙◌}
use Rattle.std.proofs.lemmas.Bool.{cases_lt}
use Rattle.std.proofs.lemmas.Option.{get_or_from_slice_get, slice_get-get_or, slice_get_within}
use Rattle.nms_board.proofs.Offered.{slice_get-set_other, slice_get-set_same}
use Rattle.nms_trades.specs.Turns.{AreAnswered, AreAnsweredBelow, IsAnswered}
use Rattle.nms_trades.specs.declared.execution.Execution.{Execution}
use Rattle.nms_trades.specs.declared.finding.Finding.{Finding}

-- an answer that is set at the next place
pub answered_one : (Holds : Execution → Finding → Type 0) (executions : List Execution) (old : List (Option Finding)) (k : ℕ)
    (executed : Execution) (answer : Option Finding) → k < length old → executed ≡ get_or executions k executed
    → IsAnswered Holds executed (Some answer)
    → AreAnsweredBelow Holds k executions old → AreAnsweredBelow Holds (k + 1) executions (slice_set old k answer)
answered_one Holds executions old k executed answer within is holds before place execution below at = elim (cases_lt place k) [
  | inl earlier ↦
      subst (IsAnswered Holds execution) (sym (slice_get-set_other old k place answer (omega (arith, earlier))))
      (before place execution earlier at)
  | inr later ↦
      let here : k ≡ place = omega (arith, below, later) in
      let own : executed ≡ execution = is ∙ get_or_from_slice_get executions k execution executed (ap (slice_get executions) here ∙ at) in
      let there = slice_get-get_or old k None within in
      subst (λ p. IsAnswered Holds execution (slice_get (slice_set old k answer) p)) here
      (subst (IsAnswered Holds execution) (sym (slice_get-set_same old k (get_or old k None) answer there))
      (subst (λ (e : Execution). IsAnswered Holds e (Some answer)) own holds))
]

-- what was set before leaves the later places
pub rest_one : (old start : List (Option Finding)) (k : ℕ) (answer : Option Finding)
    → ((other : ℕ) → k ≤ other → slice_get old other ≡ slice_get start other)
    → (other : ℕ) → k + 1 ≤ other → slice_get (slice_set old k answer) other ≡ slice_get start other
rest_one old start k answer rest other later =
    slice_get-set_other old k other answer (omega (arith, later)) ∙ rest other (omega (arith, later))

-- once the number is that of the executions
pub answered_end : (Holds : Execution → Finding → Type 0) (executions : List Execution) (answers : List (Option Finding)) (k : ℕ)
    → length executions ≤ k → AreAnsweredBelow Holds k executions answers → AreAnswered Holds executions answers
answered_end Holds executions answers k end done place execution at =
    let below = slice_get_within executions place execution at in
    done place execution (omega (arith, below, end)) at
