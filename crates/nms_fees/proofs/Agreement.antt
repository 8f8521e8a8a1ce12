-- A finding agrees with the faults that hold: it is the one of least number among them.
use Rattle.std.proofs.Common.{◌≡◌, ℕ, ◌<◌, ◌≤◌, Bool, true, false, ◌&&◌, ◌||◌, ◌==◌, nat_le, List, [], ◌∷◌, Option, Some, None}
use Rattle.std.proofs.Common.{if◌then◌else◌, refl, sym, ap, subst, ◌∙◌, arith, inl, inr}
use Rattle.std.proofs.lemmas.Bool.{or_from, or_left, or_right, true≢false, cases_order}
use Rattle.std.proofs.lemmas.Bool.Decides.{nat_tests}
use Rattle.nms_fees.specs.Faults.{lesser, number_of}
use Rattle.nms_fees.specs.declared.setup_fault.SetupFault.{SetupFault}
use Rattle.nms_fees.specs.declared.setup_fault.SetupFault.TheVariants as fault

-- the fault holds if it is found, and does not if nothing or a greater fault is found
abbrev pub AgreesWith : SetupFault → Bool → Option SetupFault → Type 0
AgreesWith f holds None = holds ≡ false
AgreesWith f holds (Some g) = (number_of f < number_of g → holds ≡ false) × (number_of f ≡ number_of g → holds ≡ true)

pub record Agrees (f : SetupFault) (holds : Bool) (found : Option SetupFault) : Type 0 where
  pub told : AgreesWith f holds found

le_from : (m n : ℕ) → nat_le m n ≡ true → m ≤ n
le_from m n h = grind (arith, nat_tests)

lt_from : (m n : ℕ) → nat_le m n ≡ false → n < m
lt_from m n h = grind (arith, nat_tests)

lesser_agrees : (f : SetupFault) (a b : Bool) (x y : Option SetupFault) → AgreesWith f a x → AgreesWith f b y
    → AgreesWith f (a || b) (lesser x y)
lesser_agrees f a b None None p q = or_from a b p q
lesser_agrees f a b None (Some h) p q = (λ below. or_from a b p (q.0 below), λ same. or_right a b (q.1 same))
lesser_agrees f a b (Some g) None p q = (λ below. or_from a b (p.0 below) q, λ same. or_left a b (p.1 same))
lesser_agrees f a b (Some g) (Some h) p q = chosen (nat_le (number_of g) (number_of h)) refl
  where
    chosen : (c : Bool) → nat_le (number_of g) (number_of h) ≡ c → AgreesWith f (a || b) (if c then Some g else Some h)
    chosen true e =
        let le = le_from (number_of g) (number_of h) e in
        (λ below. or_from a b (p.0 below) (q.0 (omega (arith, le, below))), λ same. or_left a b (p.1 same))
    chosen false e =
        let lt = lt_from (number_of g) (number_of h) e in
        (λ below. or_from a b (p.0 (omega (arith, lt, below))) (q.0 below), λ same. or_right a b (q.1 same))

-- the same for two places
pub join : {f : SetupFault} {a b : Bool} {x y : Option SetupFault} → Agrees f a x → Agrees f b y → Agrees f (a || b) (lesser x y)
join {f} {a} {b} {x} {y} p q = record { told = lesser_agrees f a b x y p.told q.told }

pub same_agrees : {f : SetupFault} {a b : Bool} {x : Option SetupFault} → a ≡ b → Agrees f a x → Agrees f b x
same_agrees {f} {a} {b} {x} e p = subst (λ c. Agrees f c x) e p

pub nothing : (f : SetupFault) → Agrees f false None
nothing f = record { told = refl }

-- a fault that is found on a condition
abbrev pub when : Bool → SetupFault → Option SetupFault
when b f = if b then Some f else None

-- and whether a fault is that one, on that condition
abbrev pub gate : SetupFault → SetupFault → Bool → Bool
gate f g b = (number_of f == number_of g) && b

eq_false : (m n : ℕ) → m < n → (m == n) ≡ false
eq_false m n h = grind (arith, nat_tests)

eq_true : (m n : ℕ) → m ≡ n → (m == n) ≡ true
eq_true m n h = grind (arith, nat_tests)

pub and_false : (b : Bool) → (b && false) ≡ false
and_false true = refl
and_false false = refl

pub on : (f g : SetupFault) (b : Bool) → Agrees f (gate f g b) (when b g)
on f g false = record { told = and_false _ }
on f g true = record { told = (λ below. ap (λ c. c && true) (eq_false _ _ below), λ same. ap (λ c. c && true) (eq_true _ _ same)) }

-- several faults of one place, each on its condition
abbrev pub Conditions : Type 0
Conditions = List (SetupFault × Bool)

abbrev pub any_on : SetupFault → Conditions → Bool
any_on f [] = false
any_on f (c ∷ cs) = gate f c.0 c.1 || any_on f cs

abbrev pub first_on : Conditions → Option SetupFault
first_on [] = None
first_on (c ∷ cs) = lesser (when c.1 c.0) (first_on cs)

pub on_each : (f : SetupFault) (cs : Conditions) → Agrees f (any_on f cs) (first_on cs)
on_each f [] = nothing f
on_each f (c ∷ cs) = join (on f c.0 c.1) (on_each f cs)

-- ---- what agrees for each fault is the least that holds

fault_at : ℕ → SetupFault
fault_at n =
    if n == 1 then fault.NotToml else (if n == 2 then fault.Missing else
    (if n == 3 then fault.UnknownKey else (if n == 4 then fault.BadName else
    (if n == 5 then fault.WrongType else (if n == 6 then fault.OutOfRange else
    (if n == 7 then fault.OverCap else (if n == 8 then fault.TooMany else fault.NoMemory)))))))

at_number : (f : SetupFault) → fault_at (number_of f) ≡ f
unfolding fault_at
at_number fault.NotToml = refl
at_number fault.Missing = refl
at_number fault.UnknownKey = refl
at_number fault.BadName = refl
at_number fault.WrongType = refl
at_number fault.OutOfRange = refl
at_number fault.OverCap = refl
at_number fault.TooMany = refl
at_number fault.NoMemory = refl

not_both : {b : Bool} → b ≡ true → b ≡ false → ⊥
not_both p q = true≢false (sym p ∙ q)

module _ (has : SetupFault → Bool) where
  pub found_holds : (x : Option SetupFault) → ((f : SetupFault) → Agrees f (has f) x) → (f : SetupFault) → x ≡ Some f
      → (has f ≡ true) × ((g : SetupFault) → number_of g < number_of f → has g ≡ false)
  found_holds x agrees f e =
      ((subst (Agrees f (has f)) e (agrees f)).told.1 refl, λ g below. (subst (Agrees g (has g)) e (agrees g)).told.0 below)

  pub none_holds : (x : Option SetupFault) → ((f : SetupFault) → Agrees f (has f) x) → (f : SetupFault) → x ≡ None → has f ≡ false
  none_holds x agrees f e = (subst (Agrees f (has f)) e (agrees f)).told

  pub least_found : (x : Option SetupFault) → ((f : SetupFault) → Agrees f (has f) x) → (f : SetupFault) → has f ≡ true
      → ((g : SetupFault) → number_of g < number_of f → has g ≡ false) → x ≡ Some f
  least_found None agrees f holds least = absurd (not_both holds (agrees f).told)
  least_found (Some h) agrees f holds least =
      elim (cases_order (number_of f) (number_of h)) [
        | inl same ↦ ap Some (sym (at_number h) ∙ ap fault_at (sym same) ∙ at_number f)
        | inr (inl below) ↦ absurd (not_both holds ((agrees f).told.0 below))
        | inr (inr above) ↦ absurd (not_both ((agrees h).told.1 refl) (least h above))
      ]

  pub nothing_found : (x : Option SetupFault) → ((f : SetupFault) → Agrees f (has f) x) → ((f : SetupFault) → has f ≡ false) → x ≡ None
  nothing_found None agrees none = refl
  nothing_found (Some h) agrees none = absurd (not_both ((agrees h).told.1 refl) (none h))
