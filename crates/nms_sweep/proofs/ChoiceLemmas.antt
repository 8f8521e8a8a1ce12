-- The chosen cutoff: one that a cut offers, and none offers a lower cost.
use Rattle.std.proofs.Common.{ℕ, ◌≡◌, true, false, List, [], ◌∷◌, Option, Some, None, ◌⊎◌, inl, inr, refl, ap, sym, ◌∙◌, arith}
use Rattle.std.specs.Prelude.{◌≤ℤ◌}
use Rattle.std.specs.Int.RustNames.{int_lt}
use Rattle.std.specs.Option.{is_some, unwrap_or}
use Rattle.std.proofs.lemmas.Bool.{cases_Bool, false≢true}
use Rattle.std.proofs.lemmas.Int.{ints}
use Rattle.nms_quote.specs.declared.certificate.Cut.{Cut}
use Rattle.nms_quote.specs.declared.order.OrderSide.{OrderSide}
use Rattle.nms_rules.specs.Usable.{Usable, rank_of}
use Rattle.nms_rules.proofs.Offered.{In, lt-false, lt-true}
use Rattle.nms_sweep.specs.Choice.{candidate, cheaper, chosen}
use Rattle.nms_sweep.specs.declared.choice.Choice.{Choice}

-- what a cut offers
abbrev pub offer : OrderSide → List Usable → ℕ → Cut → Option Choice
offer side rows most cut = candidate rows most (rank_of side cut.price) cut.kind

-- what is offered by the best so far or by a cut
abbrev pub Offered : OrderSide → List Usable → ℕ → Option Choice → List Cut → Choice → Type 0
Offered side rows most best cuts choice = (best ≡ Some choice) ⊎ ((cut : Cut) × In cut cuts × (offer side rows most cut ≡ Some choice))

-- ---- of two

pub record IsNoDearer (found : Option Choice) (other : Choice) : Type 0 where
  pub choice : Choice
  pub is : found ≡ Some choice
  pub cost : choice.cost ≤ℤ other.cost

some-same : (one other : Choice) → Some one ≡ Some other → one ≡ other
some-same one other e = ap (λ found. unwrap_or found one) e

least-step : (one other : Choice) → (int_lt other.cost one.cost ≡ true) ⊎ (int_lt other.cost one.cost ≡ false)
    → (cheaper (Some one) (Some other) ≡ Some other) × (other.cost ≤ℤ one.cost) ⊎ (cheaper (Some one) (Some other) ≡ Some one)
    × (one.cost ≤ℤ other.cost)
least-step one other (inl less) = let below = lt-true other.cost one.cost less in inl (rw less refl, omega (arith, ints, below))
least-step one other (inr most) = inr (rw most refl, lt-false other.cost one.cost most)

least : (one other : Choice) → (cheaper (Some one) (Some other) ≡ Some other) × (other.cost ≤ℤ one.cost)
    ⊎ (cheaper (Some one) (Some other) ≡ Some one) × (one.cost ≤ℤ other.cost)
least one other = least-step one other (cases_Bool (int_lt other.cost one.cost))

-- neither one costs less
left-least : (best found : Option Choice) (choice : Choice) → best ≡ Some choice → IsNoDearer (cheaper best found) choice
left-least None found choice e = absurd (false≢true (ap is_some e))
left-least (Some one) None choice e = record {
  choice = one;
  is = refl;
  cost =
      omega (arith, ints, ap (λ (c : Choice). c.cost) (some-same one choice e));
}
left-least (Some one) (Some other) choice e = step (least one other)
  where
    same : one.cost ≡ choice.cost
    same = ap (λ (c : Choice). c.cost) (some-same one choice e)

    step : (cheaper (Some one) (Some other) ≡ Some other) × (other.cost ≤ℤ one.cost) ⊎ (cheaper (Some one) (Some other) ≡ Some one)
        × (one.cost ≤ℤ other.cost) → IsNoDearer (cheaper (Some one) (Some other)) choice
    step (inl at) = record { choice = other; is = at.0; cost = omega (arith, ints, at.1, same) }
    step (inr at) = record { choice = one; is = at.0; cost = omega (arith, ints, same) }

right-least : (best found : Option Choice) (choice : Choice) → found ≡ Some choice → IsNoDearer (cheaper best found) choice
right-least None found choice e = record { choice = choice; is = e; cost = omega (arith, ints) }
right-least (Some one) None choice e = absurd (false≢true (ap is_some e))
right-least (Some one) (Some other) choice e = step (least one other)
  where
    same : other.cost ≡ choice.cost
    same = ap (λ (c : Choice). c.cost) (some-same other choice e)

    step : (cheaper (Some one) (Some other) ≡ Some other) × (other.cost ≤ℤ one.cost) ⊎ (cheaper (Some one) (Some other) ≡ Some one)
        × (one.cost ≤ℤ other.cost) → IsNoDearer (cheaper (Some one) (Some other)) choice
    step (inl at) = record { choice = other; is = at.0; cost = omega (arith, ints, same) }
    step (inr at) = record { choice = one; is = at.0; cost = omega (arith, ints, at.1, same) }

-- one of both
of-both : (best found : Option Choice) (choice : Choice) → cheaper best found ≡ Some choice → (best ≡ Some choice) ⊎ (found ≡ Some choice)
of-both None found choice e = inr e
of-both (Some one) None choice e = inl e
of-both (Some one) (Some other) choice e = step (least one other)
  where
    step : (cheaper (Some one) (Some other) ≡ Some other) × (other.cost ≤ℤ one.cost) ⊎ (cheaper (Some one) (Some other) ≡ Some one)
        × (one.cost ≤ℤ other.cost) → (Some one ≡ Some choice) ⊎ (Some other ≡ Some choice)
    step (inl at) = inr (sym at.0 ∙ e)
    step (inr at) = inl (sym at.0 ∙ e)

-- ---- of all

pub chosen_offered : (side : OrderSide) (rows : List Usable) (most : ℕ) (best : Option Choice) (cuts : List Cut) (choice : Choice)
    → chosen side rows most best cuts ≡ Some choice → Offered side rows most best cuts choice
unfolding chosen
chosen_offered side rows most best [] choice e = inl e
chosen_offered side rows most best (cut ∷ cuts) choice e =
    step (chosen_offered side rows most (cheaper best (offer side rows most cut)) cuts choice e)
  where
    both : (best ≡ Some choice) ⊎ (offer side rows most cut ≡ Some choice)
        → (best ≡ Some choice) ⊎ ((one : Cut) × In one (cut ∷ cuts) × (offer side rows most one ≡ Some choice))
    both (inl old) = inl old
    both (inr new) = inr (cut, inl refl, new)

    step : (cheaper best (offer side rows most cut) ≡ Some choice) ⊎ ((one : Cut) × In one cuts × (offer side rows most one ≡ Some choice))
        → (best ≡ Some choice) ⊎ ((one : Cut) × In one (cut ∷ cuts) × (offer side rows most one ≡ Some choice))
    step (inl now) = both (of-both best (offer side rows most cut) choice now)
    step (inr later) = inr (later.0, inr later.1, later.2)

pub chosen_least : (side : OrderSide) (rows : List Usable) (most : ℕ) (best : Option Choice) (cuts : List Cut) (other : Choice)
    → Offered side rows most best cuts other → IsNoDearer (chosen side rows most best cuts) other
unfolding chosen
chosen_least side rows most best [] other (inl e) = record { choice = other; is = e; cost = omega (arith, ints) }
chosen_least side rows most best [] other (inr at) = absurd at.1
chosen_least side rows most best (cut ∷ cuts) other offered =
    later (now offered) (λ one. chosen_least side rows most (cheaper best (offer side rows most cut)) cuts one)
  where
    -- what the best of both so far, or a later cut, offers for no more
    now : (best ≡ Some other) ⊎ ((one : Cut) × In one (cut ∷ cuts) × (offer side rows most one ≡ Some other))
        → (one : Choice) × ((cheaper best (offer side rows most cut) ≡ Some one)
        ⊎ ((later : Cut) × In later cuts × (offer side rows most later ≡ Some one))) × (one.cost ≤ℤ other.cost)
    now (inl old) = let at = left-least best (offer side rows most cut) other old in (at.choice, inl at.is, at.cost)
    now (inr at) = among at.1 at.2
      where
        among : (at.0 ≡ cut) ⊎ In at.0 cuts → offer side rows most at.0 ≡ Some other
            → (one : Choice) × ((cheaper best (offer side rows most cut) ≡ Some one)
            ⊎ ((later : Cut) × In later cuts × (offer side rows most later ≡ Some one))) × (one.cost ≤ℤ other.cost)
        among (inl e) new = let least' = right-least best (offer side rows most cut) other (ap (offer side rows most) (sym e) ∙ new) in
            (least'.choice, inl least'.is, least'.cost)
        among (inr within) new = (other, inr (at.0, within, new), omega (arith, ints))

    later : (one : Choice) × ((cheaper best (offer side rows most cut) ≡ Some one)
        ⊎ ((later : Cut) × In later cuts × (offer side rows most later ≡ Some one))) × (one.cost ≤ℤ other.cost)
        → ((one : Choice) → (cheaper best (offer side rows most cut) ≡ Some one)
        ⊎ ((later : Cut) × In later cuts × (offer side rows most later ≡ Some one))
        → IsNoDearer (chosen side rows most (cheaper best (offer side rows most cut)) cuts) one)
        → IsNoDearer (chosen side rows most (cheaper best (offer side rows most cut)) cuts) other
    later at rest = let found = rest at.0 at.1 in
        record { choice = found.choice; is = found.is; cost = omega (arith, ints, found.cost, at.2) }
