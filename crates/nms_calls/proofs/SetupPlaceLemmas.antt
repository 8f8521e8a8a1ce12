-- The first fault of least number, found from the last fault back to the first.
use Rattle.std.proofs.Common.{◌≡◌, ◌<◌, ◌+◌, ◌-◌, ◌∙◌, ℕ, suc, List, length, drop, Option, Some, slice_index_or, ap, sym, arith}
use Rattle.std.proofs.Math.Seq.{drop-cons}
use Rattle.nms_setup_places.specs.declared.finding.Finding.{Finding}
use Rattle.nms_calls.specs.SetupPlaces.{least, lesser}

-- with the fault before those already compared
pub least-one_more : (found : List Finding) (later : ℕ) (first : Option Finding) (one d : Finding)
    → later < length found → first ≡ least (drop (length found - later) found)
    → one ≡ lesser (slice_index_or found (length found - 1 - later) d) first
    → Some one ≡ least (drop (length found - (later + 1)) found)
least-one_more found later first one d below before is =
    let place : ℕ = length found - 1 - later in
    let here : Finding = slice_index_or found place d in
    let next : suc place ≡ length found - later = omega arith in
    let this : length found - (later + 1) ≡ place = omega arith in
    ap Some is
    ∙ ap (λ (f : Option Finding). Some (lesser here f)) before
    ∙ ap (λ (p : ℕ). Some (lesser here (least (drop p found)))) (sym next)
    ∙ sym (ap least (drop-cons found place d (omega arith)))
    ∙ ap (λ (p : ℕ). least (drop p found)) (sym this)
