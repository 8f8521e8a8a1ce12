-- What holds if a call succeeded.
use Rattle.std.proofs.Common.{◌≡◌, false, subst, sym}
use Rattle.std.specs.Prelude.{Result, Ok, Err, IfErr, IsErrAnd, OnOk, is_err}

-- for each value alike
pub all_ok : {T E I : Type 0} (r : Result T E) (P : I → Type 0) → ((i : I) → OnOk r (P i)) → OnOk r ((i : I) → P i)
all_ok (Ok t) P each = each
all_ok (Err e) P each = tt

-- what follows from it
pub map_ok : {T E P Q : Type 0} (r : Result T E) → (P → Q) → OnOk r P → OnOk r Q
map_ok (Ok t) f p = f p
map_ok (Err e) f p = tt

-- what holds then, since it did
pub ok_then : {T E : Type 0} (r : Result T E) (P : Type 0) → is_err r ≡ false → OnOk r P → P
ok_then (Ok t) P fine held = held
ok_then (Err e) P fine held = absurd (cc)

-- what holds anyway
pub then_ok : {T E P : Type 0} (r : Result T E) → P → OnOk r P
then_ok (Ok t) p = p
then_ok (Err e) p = tt

-- what holds of a fault that a call passes on
pub same_err : {T E : Type 0} (P : E → Type 0) (own : E) (r : Result T E) → IsErrAnd r (λ e. e ≡ own) → P own → IfErr r P
same_err P own (Ok t) is p = tt
same_err P own (Err e) is p = subst P (sym is) p
