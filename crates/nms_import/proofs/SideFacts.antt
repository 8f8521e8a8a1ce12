-- What is kept of all sides after those of one participant and symbol are written.
use Rattle.std.proofs.Common.{ℕ, ◌≡◌, ◌≢◌, ◌∙◌, ◌+◌, ◌*◌, ◌<◌, ◌≤◌, ◌&&◌, ◌++◌, [], ◌∷◌, Bool, true, false, List, ap, arith, cond, eqb}
use Rattle.std.proofs.Common.{get_or, length, refl, replicate, set, slice_get, suc, take, unwrap_or, zero}
use Rattle.std.specs.Prelude.{nat_lt}
use Rattle.std.proofs.lemmas.Bool.{eqb-false, eqb-true, ltb-false, ltb-true, ne_eqb}
use Rattle.std.proofs.lemmas.List.{get_or-set_other, get_or-set_same, take_all}
use Rattle.std.proofs.lemmas.Option.{unwrap_or-slice_get}
use Rattle.nms_quote.specs.declared.TheConstants.{MOST_PARTICIPANTS}
use Rattle.nms_import.specs.declared.side_rows.Sides.{Sides}
use Rattle.nms_import.specs.SideRows.{kept_in, no_sides, put}

-- at first nothing is shown
pub none_kept : (n i : ℕ) → unwrap_or (slice_get (replicate n no_sides) i) no_sides ≡ no_sides
none_kept zero i = refl
none_kept (suc n) zero = refl
none_kept (suc n) (suc i) = none_kept n i

-- two places are the same only if both parts are
read_at : (all : List Sides) (part symbol : ℕ) (sides : Sides) (other_part other_sym : ℕ) (same_part same_sym : Bool)
    → eqb other_part part ≡ same_part → eqb other_sym symbol ≡ same_sym → part < MOST_PARTICIPANTS → other_part < MOST_PARTICIPANTS
    → symbol * MOST_PARTICIPANTS + part < length all
    → get_or (set all (symbol * MOST_PARTICIPANTS + part) sides) (other_sym * MOST_PARTICIPANTS + other_part) no_sides
    ≡ cond (same_part && same_sym) sides (get_or all (other_sym * MOST_PARTICIPANTS + other_part) no_sides)
read_at all part symbol sides other_part other_sym true true is_part is_sym few other_few there =
    rw (eqb-true other_part part is_part, eqb-true other_sym symbol is_sym)
    (get_or-set_same all (symbol * MOST_PARTICIPANTS + part) sides no_sides there)
read_at all part symbol sides other_part other_sym true false is_part is_sym few other_few there =
    let apart : other_sym ≢ symbol = eqb-false other_sym symbol is_sym in
    let here : other_part ≡ part = eqb-true other_part part is_part in
    get_or-set_other all (symbol * MOST_PARTICIPANTS + part) (other_sym * MOST_PARTICIPANTS + other_part) sides no_sides
    (omega (arith, apart, here))
read_at all part symbol sides other_part other_sym false same_sym is_part is_sym few other_few there =
    let apart : other_part ≢ part = eqb-false other_part part is_part in
    get_or-set_other all (symbol * MOST_PARTICIPANTS + part) (other_sym * MOST_PARTICIPANTS + other_part) sides no_sides
    (omega (arith, apart, few, other_few))

-- where it is read, if a venue can be in that place
put_at : (all : List Sides) (part symbol : ℕ) (sides : Sides) (other_part other_sym : ℕ) (within : Bool)
    → nat_lt other_part MOST_PARTICIPANTS ≡ within → part < MOST_PARTICIPANTS → symbol * MOST_PARTICIPANTS + part < length all
    → kept_in (set all (symbol * MOST_PARTICIPANTS + part) sides) other_part other_sym
    ≡ put (kept_in all) part symbol sides other_part other_sym
put_at all part symbol sides other_part other_sym true is_within few there =
    let at = other_sym * MOST_PARTICIPANTS + other_part in
    let was : unwrap_or (slice_get all at) no_sides ≡ get_or all at no_sides = unwrap_or-slice_get all at no_sides in
    rw (is_within, was)
    (unwrap_or-slice_get (set all (symbol * MOST_PARTICIPANTS + part) sides) at no_sides
    ∙ read_at all part symbol sides other_part other_sym (eqb other_part part) (eqb other_sym symbol) refl refl few
    (ltb-true other_part MOST_PARTICIPANTS is_within) there)
put_at all part symbol sides other_part other_sym false is_within few there =
    let above : MOST_PARTICIPANTS ≤ other_part = ltb-false other_part MOST_PARTICIPANTS is_within in
    let apart : eqb other_part part ≡ false = ne_eqb other_part part (omega (arith, above, few)) in
    rw (is_within, apart) refl

pub kept_put : (all : List Sides) (part symbol : ℕ) (sides : Sides) (other_part other_sym : ℕ)
    → part < MOST_PARTICIPANTS → symbol * MOST_PARTICIPANTS + part < length all
    → kept_in (set all (symbol * MOST_PARTICIPANTS + part) sides) other_part other_sym
    ≡ put (kept_in all) part symbol sides other_part other_sym
kept_put all part symbol sides other_part other_sym few there =
    put_at all part symbol sides other_part other_sym (nat_lt other_part MOST_PARTICIPANTS) refl few there

-- room for more shows nothing more
grown_at : (old : List Sides) (k i : ℕ)
    → unwrap_or (slice_get (old ++ replicate k no_sides) i) no_sides ≡ unwrap_or (slice_get old i) no_sides
grown_at [] k i = none_kept k i
grown_at (one ∷ old) k zero = refl
grown_at (one ∷ old) k (suc i) = grown_at old k i

pub kept_grown : (old : List Sides) (n k part symbol : ℕ) → length old ≤ n
    → kept_in (take n old ++ replicate k no_sides) part symbol ≡ kept_in old part symbol
kept_grown old n k part symbol within =
    rw (take_all n old within)
    (ap (λ (shown : Sides). cond (nat_lt part MOST_PARTICIPANTS) shown no_sides) (grown_at old k (symbol * MOST_PARTICIPANTS + part)))
