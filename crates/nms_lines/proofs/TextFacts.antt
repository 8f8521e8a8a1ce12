-- Records as text, in parts.
use Rattle.std.proofs.Common.{ℕ, ◌≡◌, ◌<◌, ◌+◌, List, [], ◌∷◌, ◌++◌, sym, ap, ◌∙◌, append_assoc, get_or, length, map, take}
use Rattle.std.specs.Prelude.{codes}
use Rattle.std.specs.List.{join_with_byte}
use Rattle.std.proofs.lemmas.List.{append-nil, map-append, take_more}
use Rattle.std.proofs.lemmas.List.Concat.{flat_map-append}
use Rattle.nms_quote.specs.Roster.{Listing, symbol_text}
use Rattle.nms_quote.specs.declared.plan.Plan.{Plan}
use Rattle.nms_lines.specs.Named.{named_fields}
use Rattle.nms_lines.specs.PlanText.{plan_fields, plan_record}
use Rattle.nms_lines.specs.Layout.{Record}
use Rattle.nms_lines.specs.Text.{later_fields, record_text, text_of}

-- more fields after a record's, each after a comma
pub join-append : (x : List ℕ) (xs ys : List (List ℕ)) → join_with_byte 44 (x ∷ (xs ++ ys)) ≡ join_with_byte 44 (x ∷ xs) ++ later_fields ys
join-append x [] [] = sym (append-nil x)
join-append x [] (y ∷ ys) = ap (λ (t : List ℕ). x ++ 44 ∷ t) (join-append y [] ys)
join-append x (z ∷ zs) ys = ap (λ (t : List ℕ). x ++ 44 ∷ t) (join-append z zs ys)
    ∙ sym (append_assoc x (44 ∷ join_with_byte 44 (z ∷ zs)) (later_fields ys))

-- the record of a plan, written in parts
pub plan_head_written : (roster : Listing) (plan : Plan) (old begun named new : List ℕ)
    → begun ≡ old ++ (codes "PLAN" ++ later_fields (plan_fields (symbol_text roster plan.order.sym) plan))
    → named ≡ begun ++ later_fields (named_fields roster plan.order.self_help)
    → new ≡ named ++ 10 ∷ [] → new ≡ old ++ text_of (plan_record roster plan ∷ [])
plan_head_written roster plan old begun named new begins names ended =
    let fields : List (List ℕ) = plan_fields (symbol_text roster plan.order.sym) plan in
    let last : List (List ℕ) = named_fields roster plan.order.self_help in
    let head : List ℕ = codes "PLAN" ++ later_fields fields in
    let parts : later_fields (fields ++ last) ≡ later_fields fields ++ later_fields last =
    flat_map-append (λ (f : List ℕ). 44 ∷ f) fields last in
    let joined : record_text (plan_record roster plan) ≡ (head ++ later_fields last) ++ 10 ∷ [] =
    ap (λ (t : List ℕ). t ++ 10 ∷ []) (join-append (codes "PLAN") [] (fields ++ last)
    ∙ ap (λ (t : List ℕ). codes "PLAN" ++ t) parts ∙ sym (append_assoc (codes "PLAN") (later_fields fields) (later_fields last))) in
    let text : text_of (plan_record roster plan ∷ []) ≡ (head ++ later_fields last) ++ 10 ∷ [] =
    append-nil (record_text (plan_record roster plan)) ∙ joined in
    let so_far : named ≡ old ++ (head ++ later_fields last) =
    names ∙ ap (λ (t : List ℕ). t ++ later_fields last) begins ∙ append_assoc old head (later_fields last) in
    ended ∙ ap (λ (t : List ℕ). t ++ 10 ∷ []) so_far
    ∙ append_assoc old (head ++ later_fields last) (10 ∷ []) ∙ ap (λ (t : List ℕ). old ++ t) (sym text)

-- the text of a record for each of some things, and of one more
pub records_more : {X : Type 0} (record_of : X → Record) (xs : List X) (i : ℕ) (x : X) (old before after : List ℕ)
    → i < length xs → x ≡ get_or xs i x → before ≡ old ++ text_of (map record_of (take i xs))
    → after ≡ before ++ text_of (record_of x ∷ []) → after ≡ old ++ text_of (map record_of (take (i + 1) xs))
records_more {X} record_of xs i x old before after within is was one =
    let begun : List X = take i xs in
    let more : take (i + 1) xs ≡ begun ++ x ∷ [] =
    take_more xs i x within ∙ ap (λ (last : X). begun ++ last ∷ []) (sym is) in
    let parted : map record_of (take (i + 1) xs) ≡ map record_of begun ++ record_of x ∷ [] =
    ap (map record_of) more ∙ map-append record_of begun (x ∷ []) in
    let texts : text_of (map record_of (take (i + 1) xs)) ≡ text_of (map record_of begun) ++ text_of (record_of x ∷ []) =
    ap text_of parted ∙ flat_map-append record_text (map record_of begun) (record_of x ∷ []) in
    one ∙ ap (λ (text : List ℕ). text ++ text_of (record_of x ∷ [])) was
    ∙ append_assoc old (text_of (map record_of begun)) (text_of (record_of x ∷ []))
    ∙ ap (λ (text : List ℕ). old ++ text) (sym texts)
