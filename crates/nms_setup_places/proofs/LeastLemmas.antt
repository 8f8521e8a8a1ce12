-- The least of two faults is a sum: it has a neutral element, and its terms may be put in any order.
use Rattle.std.proofs.Common.{◌≡◌, ℕ, Bool, true, false, ◌==◌, nat_le, List, [], ◌∷◌, ◌++◌, map, fold, Option, Some, None}
use Rattle.std.proofs.Common.{if◌then◌else◌, refl, sym, ap, ◌∙◌, arith}
use Rattle.std.proofs.lemmas.Bool.Decides.{nat_tests}
use Rattle.nms_fees.specs.Faults.{least, lesser, number_of}
use Rattle.nms_fees.specs.declared.setup_fault.SetupFault.{SetupFault}
use Rattle.nms_fees.specs.declared.setup_fault.SetupFault.TheVariants as fault
use Rattle.nms_setup_places.specs.declared.finding.Finding.{Finding}
use Rattle.nms_setup_places.specs.Laws.{least_of}

-- ---- faults by their numbers

fault_at : ℕ → SetupFault
fault_at n =
    if n == 1 then fault.NotToml else (if n == 2 then fault.Missing else
    (if n == 3 then fault.UnknownKey else (if n == 4 then fault.BadName else
    (if n == 5 then fault.WrongType else (if n == 6 then fault.OutOfRange else
    (if n == 7 then fault.OverCap else (if n == 8 then fault.TooMany else fault.NoMemory)))))))

at_number : (f : SetupFault) → fault_at (number_of f) ≡ f
unfolding fault_at
at_number fault.NotToml = refl
at_number fault.Missing = refl
at_number fault.UnknownKey = refl
at_number fault.BadName = refl
at_number fault.WrongType = refl
at_number fault.OutOfRange = refl
at_number fault.OverCap = refl
at_number fault.TooMany = refl
at_number fault.NoMemory = refl

one_number : (f g : SetupFault) → number_of f ≡ number_of g → f ≡ g
one_number f g same = sym (at_number f) ∙ ap fault_at same ∙ at_number g

no_cycle : (l m n : ℕ) → nat_le l m ≡ true → nat_le m n ≡ true → nat_le l n ≡ false → ⊥
no_cycle l m n a b c = grind (arith, nat_tests)

no_other_cycle : (l m n : ℕ) → nat_le l m ≡ false → nat_le m n ≡ false → nat_le l n ≡ true → ⊥
no_other_cycle l m n a b c = grind (arith, nat_tests)

both_ways : (m n : ℕ) → nat_le m n ≡ true → nat_le n m ≡ true → m ≡ n
both_ways m n a b = grind (arith, nat_tests)

one_way : (m n : ℕ) → nat_le m n ≡ false → nat_le n m ≡ false → ⊥
one_way m n a b = grind (arith, nat_tests)

-- ---- the sum

pub lesser-none : (x : Option SetupFault) → lesser x None ≡ x
lesser-none None = refl
lesser-none (Some f) = refl

-- the lesser of two, by what the test of their numbers says
abbrev chosen : Bool → SetupFault → SetupFault → Option SetupFault
chosen first f g = if first then Some f else Some g

abbrev le : SetupFault → SetupFault → Bool
le f g = nat_le (number_of f) (number_of g)

lesser_chosen : (p : Bool) (f g h : SetupFault) → lesser (chosen p f g) (Some h) ≡ (if p then chosen (le f h) f h else chosen (le g h) g h)
lesser_chosen true f g h = refl
lesser_chosen false f g h = refl

chosen_lesser : (p : Bool) (f g h : SetupFault) → lesser (Some f) (chosen p g h) ≡ (if p then chosen (le f g) f g else chosen (le f h) f h)
chosen_lesser true f g h = refl
chosen_lesser false f g h = refl

assoc-some : (f g h : SetupFault) → lesser (lesser (Some f) (Some g)) (Some h) ≡ lesser (Some f) (lesser (Some g) (Some h))
assoc-some f g h = lesser_chosen (le f g) f g h ∙ by (le f g) (le g h) (le f h) refl refl refl ∙ sym (chosen_lesser (le g h) f g h)
  where
    by : (p q r : Bool) → le f g ≡ p → le g h ≡ q → le f h ≡ r
        → (if p then chosen r f h else chosen q g h) ≡ (if q then chosen p f g else chosen r f h)
    by true true true a b c = refl
    by true true false a b c = absurd (no_cycle (number_of f) (number_of g) (number_of h) a b c)
    by true false true a b c = refl
    by true false false a b c = refl
    by false true r a b c = refl
    by false false true a b c = absurd (no_other_cycle (number_of f) (number_of g) (number_of h) a b c)
    by false false false a b c = refl

pub lesser-assoc : (x y z : Option SetupFault) → lesser (lesser x y) z ≡ lesser x (lesser y z)
lesser-assoc None y z = refl
lesser-assoc (Some f) None z = refl
lesser-assoc (Some f) (Some g) None = lesser-none (lesser (Some f) (Some g))
lesser-assoc (Some f) (Some g) (Some h) = assoc-some f g h

comm-some : (f g : SetupFault) → lesser (Some f) (Some g) ≡ lesser (Some g) (Some f)
comm-some f g = by (le f g) (le g f) refl refl
  where
    by : (p q : Bool) → le f g ≡ p → le g f ≡ q → chosen p f g ≡ chosen q g f
    by true true a b = ap Some (one_number f g (both_ways (number_of f) (number_of g) a b))
    by true false a b = refl
    by false true a b = refl
    by false false a b = absurd (one_way (number_of f) (number_of g) a b)

pub lesser-comm : (x y : Option SetupFault) → lesser x y ≡ lesser y x
lesser-comm None y = sym (lesser-none y)
lesser-comm (Some f) None = refl
lesser-comm (Some f) (Some g) = comm-some f g

-- two sums of two terms, term by term
pub lesser-pairs : (a b c d : Option SetupFault) → lesser (lesser a b) (lesser c d) ≡ lesser (lesser a c) (lesser b d)
lesser-pairs a b c d = lesser-assoc a b (lesser c d)
    ∙ ap (lesser a) (sym (lesser-assoc b c d) ∙ ap (λ x. lesser x d) (lesser-comm b c) ∙ lesser-assoc c b d)
    ∙ sym (lesser-assoc a c (lesser b d))

-- ---- sums of lists

-- from the last term on
abbrev pub sum_of : List (Option SetupFault) → Option SetupFault
sum_of [] = None
sum_of (x ∷ xs) = lesser x (sum_of xs)

fold_sum : (x : Option SetupFault) (xs : List (Option SetupFault)) → fold lesser x xs ≡ lesser x (sum_of xs)
fold_sum x [] = sym (lesser-none x)
fold_sum x (y ∷ ys) = fold_sum (lesser x y) ys ∙ lesser-assoc x y (sum_of ys)

pub least_sum : (xs : List (Option SetupFault)) → least xs ≡ sum_of xs
least_sum xs = fold_sum None xs

-- the same for the faults of findings
abbrev pub sum_found : List Finding → Option SetupFault
sum_found [] = None
sum_found (finding ∷ findings) = lesser (Some finding.fault) (sum_found findings)

pub least_of_sum : (findings : List Finding) → least_of findings ≡ sum_found findings
least_of_sum findings = least_sum (map (λ finding. Some finding.fault) findings) ∙ mapped findings
  where
    mapped : (findings : List Finding) → sum_of (map (λ finding. Some finding.fault) findings) ≡ sum_found findings
    mapped [] = refl
    mapped (finding ∷ findings) = ap (lesser (Some finding.fault)) (mapped findings)

pub sum_found-append : (first last : List Finding) → sum_found (first ++ last) ≡ lesser (sum_found first) (sum_found last)
sum_found-append [] last = refl
sum_found-append (finding ∷ first) last = ap (lesser (Some finding.fault)) (sum_found-append first last)
    ∙ sym (lesser-assoc (Some finding.fault) (sum_found first) (sum_found last))
