-- What holds of each thing that a search in order may return holds of the one that it returns.
use Rattle.std.proofs.Common.{◌≡◌, Bool, true, false, Option, Some, None, refl, subst}
use Rattle.std.specs.Prelude.{IfSome, option_map}
use Rattle.nms_rules.specs.First.{when, ◌or_else◌}

pub when-holds : {X : Type 0} (P : X → Type 0) (b : Bool) (x : X) → (b ≡ true → P x) → IfSome (when b x) P
when-holds P true x holds = holds refl
when-holds P false x holds = tt

pub when-none : {X : Type 0} (b : Bool) (x : X) → when b x ≡ None → b ≡ false
when-none true x none = cc
when-none false x none = refl

pub or-holds : {X : Type 0} (P : X → Type 0) (m n : Option X) → IfSome m P → (m ≡ None → IfSome n P) → IfSome (m or_else n) P
or-holds P (Some x) n here there = here
or-holds P None n here there = there refl

pub map-holds : {X Y : Type 0} (P : Y → Type 0) (f : X → Y) (m : Option X) → ((x : X) → m ≡ Some x → P (f x)) → IfSome (option_map f m) P
map-holds P f (Some x) each = each x refl
map-holds P f None each = tt

pub some-holds : {X : Type 0} (P : X → Type 0) (m : Option X) (x : X) → IfSome m P → m ≡ Some x → P x
some-holds P m x holds is = subst (λ (o : Option _). IfSome o P) is holds

-- a finding of a test, before others
pub next-holds : {X : Type 0} (P : X → Type 0) (b : Bool) (x : X) (n : Option X) → (b ≡ true → P x) → IfSome n P
    → IfSome (when b x or_else n) P
next-holds P true x n here there = here refl
next-holds P false x n here there = there
