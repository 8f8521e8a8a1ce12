-- What holds at each place of a list of changes holds for each change.
use Rattle.std.proofs.Common.{◌≡◌, ◌<◌, ◌+◌, ℕ, suc, true, All, List, [], ◌∷◌, IfSome, Ok, length, slice_get, subst, inl, inr, arith}
use Rattle.std.proofs.lemmas.Bool.{cases_lt}
use Rattle.std.proofs.lemmas.List.Elements.{All-cons, All-head, All-nil, All-tail}
use Rattle.nms_quote.specs.Roster.{Sizes, holds}
use Rattle.nms_quote.specs.declared.change.Change.{Change}
use Rattle.nms_calls.specs.ChangeNumbers.{IsSaid, change_numbers}
use Rattle.nms_calls.specs.ChangeSaid.{change_said}

-- what holds at the first places and at the next holds at one more
pub one_more : (k : ℕ) (P : ℕ → Type 0) → ((i : ℕ) → i < k → P i) → P k → (i : ℕ) → i < k + 1 → P i
one_more k P before next i below = elim (cases_lt i k) [
  | inl earlier ↦ before i earlier
  | inr later ↦
      let here : k ≡ i = omega (arith, below, later) in
      subst P here next
]

-- if the change at each place is said by its numbers, and the roster holds all, each is said on that roster
pub said-all : (sizes : Sizes) (changes : List Change) → ((place : ℕ) → place < length changes → IfSome (slice_get changes place) IsSaid)
    → All (λ change. holds sizes change ≡ true) changes
    → All (λ change. change_said sizes (change_numbers change) ≡ Ok change) changes
said-all sizes [] each held = All-nil (λ change. change_said sizes (change_numbers change) ≡ Ok change)
said-all sizes (change ∷ changes) each held =
    All-cons (λ change. change_said sizes (change_numbers change) ≡ Ok change) change changes
    (each 0 (omega arith) sizes (All-head (λ change. holds sizes change ≡ true) change changes held))
    (said-all sizes changes (λ place within. each (suc place) (omega (arith, within)))
    (All-tail (λ change. holds sizes change ≡ true) change changes held))
