-- What the shards of a day say together: it counts as often as one of them judges.
use Rattle.std.proofs.Common.{ℕ, ◌≡◌, ◌+◌, ◌≤◌, [], ◌∷◌, IfSome, List, Option, Some, None, ap, arith, is_some, refl, subst}
use Rattle.std.proofs.lemmas.Bool.{true≢false}
use Rattle.std.proofs.lemmas.List.Sums.{sum_by-cons}
use Rattle.nms_trades.specs.Day.{both, judged_among, once, together}
use Rattle.nms_trades.specs.declared.said.Said.{Said}
use Rattle.nms_trades.specs.declared.said.Said.TheVariants as said

-- what two say together is judged as often as both of them judge it
pub both_once : (own more : Said) → IfSome (both own more) (λ it. once it ≡ once own + once more)
both_once said.Unknown more = omega arith
both_once (said.Refused fault) said.Unknown = refl
both_once (said.Refused fault) (said.Refused other) = refl
both_once (said.Refused fault) said.Elsewhere = refl
both_once (said.Refused fault) (said.Here line) = refl
both_once said.Elsewhere said.Unknown = refl
both_once said.Elsewhere (said.Refused fault) = refl
both_once said.Elsewhere said.Elsewhere = refl
both_once said.Elsewhere (said.Here line) = refl
both_once (said.Here line) said.Unknown = refl
both_once (said.Here line) (said.Refused fault) = refl
both_once (said.Here line) said.Elsewhere = refl
both_once (said.Here line) (said.Here other) = tt

-- the first of more shards, and the others
more_judge : (more : Said) (shards : List Said) → judged_among (more ∷ shards) ≡ once more + judged_among shards
more_judge more shards = sum_by-cons once more shards

-- the same facts about another count
weaker : (o : Option Said) (m n : ℕ) → m ≡ n → IfSome o (λ it. once it ≡ m) → IfSome o (λ it. once it ≡ n)
weaker o m n same had = subst (λ k. IfSome o (λ it. once it ≡ k)) same had

-- a shard more
with_more : (own more : Said) (next : Option Said) (shards : List Said) → IfSome next (λ it. once it ≡ once own + once more)
    → ((it : Said) → IfSome (together (Some it) shards) (λ said. once said ≡ once it + judged_among shards))
    → IfSome (together next shards) (λ said. once said ≡ once own + judged_among (more ∷ shards))
unfolding together
with_more own more None shards was rest = tt
with_more own more (Some it) shards was rest =
    weaker (together (Some it) shards) (once it + judged_among shards) (once own + judged_among (more ∷ shards))
    (omega (arith, was, more_judge more shards)) (rest it)

-- what some shards say together with those before them is judged as often as all of them judge it
pub together_once : (own : Said) (shards : List Said)
    → IfSome (together (Some own) shards) (λ said. once said ≡ once own + judged_among shards)
unfolding together
together_once own [] = omega arith
together_once own (more ∷ shards) =
    with_more own more (both own more) shards (both_once own more) (λ it. together_once it shards)

-- what is said is not nothing
never : (it : Said) → Some it ≡ None → ⊥
never it none = true≢false (ap is_some none)

-- two judge it, if nothing is said
both_twice : (own more : Said) → both own more ≡ None → 2 ≤ once own + once more
both_twice said.Unknown more none = absurd (never _ none)
both_twice (said.Refused fault) said.Unknown none = absurd (never _ none)
both_twice (said.Refused fault) (said.Refused other) none = absurd (never _ none)
both_twice (said.Refused fault) said.Elsewhere none = absurd (never _ none)
both_twice (said.Refused fault) (said.Here line) none = absurd (never _ none)
both_twice said.Elsewhere said.Unknown none = absurd (never _ none)
both_twice said.Elsewhere (said.Refused fault) none = absurd (never _ none)
both_twice said.Elsewhere said.Elsewhere none = absurd (never _ none)
both_twice said.Elsewhere (said.Here line) none = absurd (never _ none)
both_twice (said.Here line) said.Unknown none = absurd (never _ none)
both_twice (said.Here line) (said.Refused fault) none = absurd (never _ none)
both_twice (said.Here line) said.Elsewhere none = absurd (never _ none)
both_twice (said.Here line) (said.Here other) none = omega arith

twice_with : (own more : Said) (next : Option Said) (shards : List Said) → both own more ≡ next → together next shards ≡ None
    → ((it : Said) → together (Some it) shards ≡ None → 2 ≤ once it + judged_among shards)
    → 2 ≤ once own + judged_among (more ∷ shards)
twice_with own more None shards is none rest = omega (arith, both_twice own more is, more_judge more shards)
twice_with own more (Some it) shards is none rest =
    let was : once it ≡ once own + once more = subst (λ o. IfSome o (λ it. once it ≡ once own + once more)) is (both_once own more) in
    omega (arith, was, rest it none, more_judge more shards)

pub together_twice : (own : Said) (shards : List Said) → together (Some own) shards ≡ None → 2 ≤ once own + judged_among shards
unfolding together
together_twice own [] none = absurd (never _ none)
together_twice own (more ∷ shards) none =
    twice_with own more (both own more) shards refl none (λ it. together_twice it shards)
