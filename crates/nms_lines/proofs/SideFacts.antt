-- What a price and shares that were read say of the two fields of a side.
use Rattle.std.proofs.Common.{◌≡◌, ◌==◌, ◌&&◌, ℕ, Bool, true, false, not, Option, Some, None, Result, Ok, Err, refl, sym, ap, ◌∙◌}
use Rattle.std.proofs.Common.{true≢false, arith, is_some, List, [], ◌∷◌, if◌then◌else◌}
use Rattle.std.proofs.lemmas.Bool.Decides.{nat_tests}
use Rattle.nms_units.specs.Price.{above_zero}
use Rattle.nms_units.specs.declared.unit_fault.UnitFault.{UnitFault}
use Rattle.nms_units.specs.declared.unit_fault.UnitFault.TheVariants as fault
use Rattle.nms_units.specs.Price.{price_number}
use Rattle.nms_lines.specs.Layout.{Record, field}
use Rattle.nms_lines.specs.Numbers.{above_zero as positive, is_there, is_zero, shares_number}
use Rattle.nms_lines.specs.Sides.{content_from, is_bad_price, is_bad_shares, is_empty, is_half, is_unfit, side_content, sides_in}

-- a number above zero, or the fault
abbrev tested : Bool → ℕ → Result ℕ UnitFault
tested is_none number = if is_none then Err fault.ZeroPrice else Ok number

above_test : (is_none unfit : Bool) (number price : ℕ) → tested is_none number ≡ Ok price → (is_none && unfit) ≡ false
above_test true unfit number price is = cc
above_test false unfit number price is = refl

-- a price is fit next to any shares
pub fit_with_price : (number shares : Option ℕ) (price : ℕ) → above_zero number ≡ Ok price → is_unfit number shares ≡ false
fit_with_price None shares price is = cc
fit_with_price (Some n) shares price is = above_test (n == 0) (not (is_zero shares)) n price is

fault_test : (is_none : Bool) (number : ℕ) (why : UnitFault) → tested is_none number ≡ Err why → is_none ≡ true
fault_test true number why is = refl
fault_test false number why is = cc

-- a price of zero is unfit unless the shares are 0
pub unfit_zero : (number shares : Option ℕ) → above_zero number ≡ Err fault.ZeroPrice → is_unfit number shares ≡ not (is_zero shares)
unfit_zero None shares is = cc
unfit_zero (Some n) shares is = ap (λ (zero : Bool). zero && not (is_zero shares)) (fault_test (n == 0) n fault.ZeroPrice is)

priced : (none no_shares : Bool) (n m : ℕ)
    → is_some (content_from (if none then None else Some n) (if no_shares then None else Some m)) ≡ true → none ≡ false
priced true no_shares n m is = cc
priced false no_shares n m is = refl

sharing : (none : Bool) (n : ℕ) → is_some (content_from (if none then None else Some n) None) ≡ true → ⊥
sharing true n is = true≢false (sym is)
sharing false n is = true≢false (sym is)

-- a quote's numbers are both there, and its price is above zero
quote_numbers : (price shares : Option ℕ) → is_some (content_from (positive price) (positive shares)) ≡ true
    → (is_there price ≡ true) × (is_there shares ≡ true) × (is_unfit price shares ≡ false)
quote_numbers None shares is = cc
quote_numbers (Some n) None is = absurd (sharing (n == 0) n is)
quote_numbers (Some n) (Some m) is = (refl, refl, ap (λ (zero : Bool). zero && not (m == 0)) (priced (n == 0) (m == 0) n m is))

filled : (text : List ℕ) (number : List ℕ → Option ℕ) → number [] ≡ None → is_there (number text) ≡ true → is_empty text ≡ false
filled [] number none there = absurd (true≢false (sym there ∙ ap is_there none))
filled (c ∷ cs) number none there = grind (arith, nat_tests)

-- a side with a quote has no fault
quote_faults : (price shares : List ℕ) → is_some (side_content price shares) ≡ true
    → (is_bad_price price shares ≡ false) × (is_bad_shares shares ≡ false) × (is_half price shares ≡ false)
quote_faults price shares is =
    let numbers = quote_numbers (price_number price) (shares_number shares) is in
    let price_there = filled price price_number refl numbers.0 in
    let shares_there = filled shares shares_number refl numbers.1 in
    (rw (price_there, numbers.2) refl, rw (shares_there, numbers.1) refl, rw (price_there, shares_there) refl)

-- what two sides with quotes say
pub sides_of_quotes : (fields : Record) → is_some (side_content (field fields 4) (field fields 5)) ≡ true
    → is_some (side_content (field fields 6) (field fields 7)) ≡ true
    → sides_in fields ≡ Ok (side_content (field fields 4) (field fields 5), side_content (field fields 6) (field fields 7))
sides_of_quotes fields is are =
    let first = quote_faults (field fields 4) (field fields 5) is in
    let second = quote_faults (field fields 6) (field fields 7) are in
    rw (first.0, second.0, first.1, second.1, first.2, second.2) refl
