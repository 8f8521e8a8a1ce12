-- The first of all faults that hold is the one of least number that holds.
use Rattle.std.proofs.Common.{◌≡◌, ℕ, suc, ◌<◌, ◌≤◌, ◌⊎◌, inl, inr, true, false, Bool, List, [], ◌∷◌, Option, Some, None, refl, sym}
use Rattle.std.proofs.Common.{ap, subst, ◌∙◌, arith, lit≤, is_some}
use Rattle.nms_lines.specs.Faults.{number_of}
use Rattle.nms_lines.specs.declared.line_fault.FaultPlace.{FaultPlace}
use Rattle.nms_lines.specs.declared.line_fault.LineFault.{LineFault}
use Rattle.nms_lines.specs.declared.line_fault.LineFault.TheVariants as fault
use Rattle.nms_lines.specs.declared.line_fault.PlacedFault.{PlacedFault}

-- the faults of a kind's fields, least number first
abbrev pub field_faults : List LineFault
field_faults =
    fault.UnknownParticipant ∷ fault.UnknownSymbol ∷ fault.BadState ∷ fault.BadPrice ∷ fault.BadShares ∷ fault.HalfSide
    ∷ fault.WrongFeed ∷ fault.BadDesk ∷ fault.BadLot ∷ []

-- all faults, least number first
abbrev pub all_faults : List LineFault
all_faults = fault.UnknownKind ∷ fault.FieldCount ∷ field_faults

-- a fault that holds somewhere, or else another
abbrev pub or_else : LineFault → Option FaultPlace → Option PlacedFault → Option PlacedFault
or_else f (Some place) rest = Some (record { fault = f; place = place })
or_else f None rest = rest

-- the first of these faults that holds, and its place
abbrev pub first_of : (LineFault → Option FaultPlace) → List LineFault → Option PlacedFault
first_of wrong [] = None
first_of wrong (f ∷ fs) = or_else f (wrong f) (first_of wrong fs)

-- the fault is one of these
abbrev pub IsAmong : LineFault → List LineFault → Type 0
IsAmong f [] = ⊥
IsAmong f (x ∷ xs) = (f ≡ x) ⊎ IsAmong f xs

pub is_among_all : (f : LineFault) → IsAmong f all_faults
is_among_all fault.UnknownKind = inl refl
is_among_all fault.FieldCount = inr (inl refl)
is_among_all fault.UnknownParticipant = inr (inr (inl refl))
is_among_all fault.UnknownSymbol = inr (inr (inr (inl refl)))
is_among_all fault.BadState = inr (inr (inr (inr (inl refl))))
is_among_all fault.BadPrice = inr (inr (inr (inr (inr (inl refl)))))
is_among_all fault.BadShares = inr (inr (inr (inr (inr (inr (inl refl))))))
is_among_all fault.HalfSide = inr (inr (inr (inr (inr (inr (inr (inl refl)))))))
is_among_all fault.WrongFeed = inr (inr (inr (inr (inr (inr (inr (inr (inl refl))))))))
is_among_all fault.BadDesk = inr (inr (inr (inr (inr (inr (inr (inr (inr (inl refl)))))))))
is_among_all fault.BadLot = inr (inr (inr (inr (inr (inr (inr (inr (inr (inr (inl refl))))))))))

-- their numbers rise, from `low` on
abbrev pub Rises : ℕ → List LineFault → Type 0
Rises low [] = Unit {0}
Rises low (x ∷ xs) = (low ≤ number_of x) × Rises (suc (number_of x)) xs

pub all_rise : Rises 0 all_faults
all_rise = (lit≤ tt, (lit≤ tt, (lit≤ tt, (lit≤ tt, (lit≤ tt, (lit≤ tt, (lit≤ tt, (lit≤ tt, (lit≤ tt, (lit≤ tt, (lit≤ tt, tt)))))))))))

among_above : (low : ℕ) (xs : List LineFault) (f : LineFault) → Rises low xs → IsAmong f xs → low ≤ number_of f
among_above low [] f rises among = absurd among
among_above low (x ∷ xs) f rises (inl e) = subst (λ g. low ≤ number_of g) (sym e) rises.0
among_above low (x ∷ xs) f rises (inr among) =
    let above : suc (number_of x) ≤ number_of f = among_above (suc (number_of x)) xs f rises.1 among in
    let from : low ≤ number_of x = rises.0 in
    omega arith

-- the fault holds there, and none of these of a smaller number holds
abbrev pub IsLeastOf : (LineFault → Option FaultPlace) → List LineFault → PlacedFault → Type 0
IsLeastOf wrong xs p =
    (wrong p.fault ≡ Some p.place) × ((g : LineFault) → IsAmong g xs → number_of g < number_of p.fault → is_some (wrong g) ≡ false)

same_fault : {p q : PlacedFault} → Some p ≡ Some q → p ≡ q
same_fault e = cc

same_place : {p q : FaultPlace} → Some p ≡ Some q → p ≡ q
same_place e = cc

same_number : {f g : LineFault} → f ≡ g → number_of f ≡ number_of g
same_number e = ap number_of e

not_both : {b : Bool} → b ≡ true → b ≡ false → ⊥
not_both p q = cc

least_at : (wrong : LineFault → Option FaultPlace) (x : LineFault) (xs : List LineFault) (p : PlacedFault) (found : Option FaultPlace)
    → wrong x ≡ found → Rises (suc (number_of x)) xs
    → (first_of wrong xs ≡ Some p → IsLeastOf wrong xs p) → or_else x found (first_of wrong xs) ≡ Some p → IsLeastOf wrong (x ∷ xs) p
least_at wrong x xs p (Some place) here rises more e =
    let number : number_of x ≡ number_of p.fault = same_number (ap (λ (q : PlacedFault). q.fault) (same_fault e)) in (
      subst (λ (q : PlacedFault). wrong q.fault ≡ Some q.place) (same_fault e) here,
      λ g among below. elim among [
        | inl is_x ↦ absurd (omega (arith, same_number is_x, number, below))
        | inr later ↦ absurd (omega (arith, among_above (suc (number_of x)) xs g rises later, number, below))
      ],
    )
least_at wrong x xs p None here rises more e =
    let rest = more e in (
      rest.0,
      λ g among below. elim among [
        | inl is_x ↦ subst (λ k. is_some (wrong k) ≡ false) (sym is_x) (ap is_some here)
        | inr later ↦ rest.1 g later below
      ],
    )

-- the first that holds is the least that does
pub first_is_least : (wrong : LineFault → Option FaultPlace) (low : ℕ) (xs : List LineFault) (p : PlacedFault) → Rises low xs
    → first_of wrong xs ≡ Some p → IsLeastOf wrong xs p
first_is_least wrong low [] p rises e = absurd (cc)
first_is_least wrong low (x ∷ xs) p rises e =
    least_at wrong x xs p (wrong x) refl rises.1 (first_is_least wrong (suc (number_of x)) xs p rises.1) e

first_at : (wrong : LineFault → Option FaultPlace) (x : LineFault) (xs : List LineFault) (p : PlacedFault) (found : Option FaultPlace)
    → wrong x ≡ found → Rises (suc (number_of x)) xs
    → IsAmong p.fault (x ∷ xs) → wrong p.fault ≡ Some p.place
    → ((g : LineFault) → number_of g < number_of p.fault → is_some (wrong g) ≡ false)
    → (IsAmong p.fault xs → first_of wrong xs ≡ Some p) → or_else x found (first_of wrong xs) ≡ Some p
first_at wrong x xs p (Some place) here rises (inl is_x) holds least more =
    let same : place ≡ p.place = same_place (sym here ∙ ap wrong (sym is_x) ∙ holds) in rw (same, sym is_x) refl
first_at wrong x xs p (Some place) here rises (inr later) holds least more =
    absurd (not_both (ap is_some here) (least x (among_above (suc (number_of x)) xs p.fault rises later)))
first_at wrong x xs p None here rises (inl is_x) holds least more =
    absurd (not_both (ap is_some holds) (subst (λ g. is_some (wrong g) ≡ false) (sym is_x) (ap is_some here)))
first_at wrong x xs p None here rises (inr later) holds least more = more later

-- and the least that holds is the first that does
pub least_is_first : (wrong : LineFault → Option FaultPlace) (low : ℕ) (xs : List LineFault) (p : PlacedFault) → Rises low xs
    → IsAmong p.fault xs → wrong p.fault ≡ Some p.place
    → ((g : LineFault) → number_of g < number_of p.fault → is_some (wrong g) ≡ false) → first_of wrong xs ≡ Some p
least_is_first wrong low [] p rises among holds least = absurd among
least_is_first wrong low (x ∷ xs) p rises among holds least =
    first_at wrong x xs p (wrong x) refl rises.1 among holds least
    (λ later. least_is_first wrong (suc (number_of x)) xs p rises.1 later holds least)

none_at : (wrong : LineFault → Option FaultPlace) (x : LineFault) (xs : List LineFault) (g : LineFault) (found : Option FaultPlace)
    → wrong x ≡ found → IsAmong g (x ∷ xs)
    → (first_of wrong xs ≡ None → IsAmong g xs → is_some (wrong g) ≡ false) → or_else x found (first_of wrong xs) ≡ None
    → is_some (wrong g) ≡ false
none_at wrong x xs g (Some place) here among more e = absurd (cc)
none_at wrong x xs g None here (inl is_x) more e = subst (λ k. is_some (wrong k) ≡ false) (sym is_x) (ap is_some here)
none_at wrong x xs g None here (inr later) more e = more e later

-- if there is no first, none holds
pub none_holds : (wrong : LineFault → Option FaultPlace) (xs : List LineFault) (g : LineFault) → first_of wrong xs ≡ None
    → IsAmong g xs → is_some (wrong g) ≡ false
none_holds wrong [] g e among = absurd among
none_holds wrong (x ∷ xs) g e among = none_at wrong x xs g (wrong x) refl among (none_holds wrong xs g) e

nowhere : (found : Option FaultPlace) (f : LineFault) (rest : Option PlacedFault) → is_some found ≡ false → or_else f found rest ≡ rest
nowhere None f rest e = refl
nowhere (Some place) f rest e = absurd (cc)

-- and if none holds, there is no first
pub no_first : (wrong : LineFault → Option FaultPlace) (xs : List LineFault) → ((g : LineFault) → is_some (wrong g) ≡ false)
    → first_of wrong xs ≡ None
no_first wrong [] none = refl
no_first wrong (x ∷ xs) none = nowhere (wrong x) x (first_of wrong xs) (none x) ∙ no_first wrong xs none
