-- One more turn: it is among the turns, and what was found before it stays.
use Rattle.std.proofs.Common.{◌≡◌, ◌≢◌, ◌<◌, ◌+◌, ◌++◌, ◌∷◌, ℕ, [], List, Contains, Option, Some, None, slice_get, slice_set, length}
use Rattle.std.proofs.Common.{take, get_or}
use Rattle.std.proofs.Common.{arith, inl, inr, subst, sym, ap, ◌∙◌}
use Rattle.std.proofs.lemmas.Bool.{cases_eq, cases_lt}
use Rattle.std.proofs.lemmas.List.{get_or_default, take_more}
use Rattle.std.proofs.lemmas.List.Elements.{Contains-append_left, Contains-push, Contains-push_cases}
use Rattle.std.proofs.lemmas.List.Sorted.{Contains-permutation}
use Rattle.std.proofs.lemmas.Option.{get_or_from_slice_get, slice_get-get_or, slice_get_within}
use Rattle.nms_board.proofs.Offered.{slice_get-set_same}
use Rattle.std.specs.List.Sorted.{IsPermutation}
use Rattle.nms_trades.specs.Turns.{AreAnsweredIn, HaveTurns, IsAnswered}
use Rattle.nms_trades.specs.declared.execution.Execution.{Execution}
use Rattle.nms_trades.specs.declared.finding.Finding.{Finding}
use Rattle.nms_trades.specs.declared.order.Turn.{Turn}

-- the turn of one more place
pub have_more : (turns : List Turn) (k : ℕ) (turn : Turn) → HaveTurns turns k → turn.place ≡ k
    → HaveTurns (turns ++ turn ∷ []) (k + 1)
have_more turns k turn had is place below = elim (cases_lt place k) [
  | inl earlier ↦
      let own = had place earlier in
      (own.0, Contains-append_left turns (turn ∷ []) own.0 own.1, own.2)
  | inr later ↦ (turn, Contains-push turns turn, omega (arith, is, below, later))
]

-- the same turns in another order
pub have_sorted : (turns sorted : List Turn) (k : ℕ) → IsPermutation turns sorted → HaveTurns turns k → HaveTurns sorted k
have_sorted turns sorted k same had place below =
    let own = had place below in
    (own.0, Contains-permutation turns sorted own.0 same own.1, own.2)

-- with the finding of one more turn
pub answered_more : (Holds : Execution → Finding → Type 0) (executions : List Execution) (old new : List (Option Finding))
    (turns : List Turn)
    (k : ℕ) (turn : Turn) → k < length turns → turn ≡ get_or turns k turn
    → ((execution : Execution) → slice_get executions turn.place ≡ Some execution
    → IsAnswered Holds execution (slice_get new turn.place))
    → ((other : ℕ) → other ≢ turn.place → slice_get new other ≡ slice_get old other)
    → AreAnsweredIn Holds executions old (take k turns) → AreAnsweredIn Holds executions new (take (k + 1) turns)
answered_more Holds executions old new turns k turn within is own others before other there execution at =
    let one_more : take (k + 1) turns ≡ take k turns ++ turn ∷ [] =
    take_more turns k turn within ∙ ap (λ t. take k turns ++ t ∷ []) (sym is) in
    elim (Contains-push_cases (take k turns) turn other (subst (λ ts. Contains ts other) one_more there)) [
      | inl earlier ↦ elim (cases_eq other.place turn.place) [
        | inl same ↦
            subst (λ place. IsAnswered Holds execution (slice_get new place)) (sym same)
            (own execution (ap (slice_get executions) (sym same) ∙ at))
        | inr apart ↦
            subst (IsAnswered Holds execution) (sym (others other.place apart)) (before other earlier execution at)
      ]
      | inr last ↦
          subst (λ (t : Turn). IsAnswered Holds execution (slice_get new t.place)) last
          (own execution (ap (λ (t : Turn). slice_get executions t.place) last ∙ at))
    ]

-- the same of the turn that is read
pub answered_next : (Holds : Execution → Finding → Type 0) (executions : List Execution) (old new : List (Option Finding))
    (turns : List Turn)
    (k : ℕ) (d : Turn) → k < length turns
    → ((execution : Execution) → slice_get executions (get_or turns k d).place ≡ Some execution
    → IsAnswered Holds execution (slice_get new (get_or turns k d).place))
    → ((other : ℕ) → other ≢ (get_or turns k d).place → slice_get new other ≡ slice_get old other)
    → AreAnsweredIn Holds executions old (take k turns) → AreAnsweredIn Holds executions new (take (k + 1) turns)
answered_next Holds executions old new turns k d within own others before =
    answered_more Holds executions old new turns k (get_or turns k d) within (get_or_default turns k d (get_or turns k d) within) own
    others before

-- where each execution had its turn, each has its finding
pub answered_all : (Holds : Execution → Finding → Type 0) (executions : List Execution) (answers : List (Option Finding))
    (turns : List Turn)
    → HaveTurns turns (length executions) → AreAnsweredIn Holds executions answers turns
    → (place : ℕ) (execution : Execution) → slice_get executions place ≡ Some execution
    → IsAnswered Holds execution (slice_get answers place)
answered_all Holds executions answers turns had all place execution at =
    let own = had place (slice_get_within executions place execution at) in
    subst (λ p. IsAnswered Holds execution (slice_get answers p)) own.2
    (all own.0 own.1 execution (ap (slice_get executions) own.2 ∙ at))

-- a finding that is put at the place of its execution
pub turn_own : (Holds : Execution → Finding → Type 0) (execution executed : Execution) (executions : List Execution)
    (answers : List (Option Finding)) (place : ℕ) (finding : Finding) → place < length answers
    → slice_get executions place ≡ Some execution → executed ≡ get_or executions place executed → Holds executed finding
    → IsAnswered Holds execution (slice_get (slice_set answers place (Some finding)) place)
turn_own Holds execution executed executions answers place finding below at is holds =
    let own : execution ≡ executed = sym (get_or_from_slice_get executions place execution executed at) ∙ sym is in
    let there = slice_get-get_or answers place None below in
    rw (own, slice_get-set_same answers place (get_or answers place None) (Some finding) there) holds
