-- Reading a plan from records, step by step.
use Rattle.std.proofs.Common.{arith, ◌≡◌, ◌<◌, ◌≤◌, ◌&&◌, ◌==◌, Bool, true, false, List, [], ◌∷◌, ◌++◌, refl, sym, ap, ◌∙◌, Option, Some, None}
use Rattle.std.proofs.Common.{inl, inr, length, append_assoc}
use Rattle.std.specs.Option.{ok_or}
use Rattle.std.specs.Prelude.{◌⊎◌, IfOk, IfSome, Result, codes, is_ok, not, option_map}
use Rattle.std.specs.Result.{result_ok}
use Rattle.std.proofs.lemmas.Bool.{eqb-true, le-leb, lt-leb, ne_eqb}
use Rattle.std.proofs.Math.Bool.{and-false}
use Rattle.nms_lines.specs.Layout.{field, is_text}
use Rattle.std.proofs.lemmas.Iterator.Adapters.{option_map_id}
use Rattle.std.proofs.lemmas.List.{append-nil, length-append}
use Rattle.nms_quote.specs.Roster.{Listing}
use Rattle.nms_quote.specs.declared.plan.Leg.{Leg}
use Rattle.nms_quote.specs.declared.certificate.Cut.{Cut}
use Rattle.nms_lines.specs.Layout.{Record}
use Rattle.nms_lines.specs.Faults.{◌>>=◌ as ◌then◌, refuse_if}
use Rattle.nms_lines.specs.PlanReading.{◌>>=◌, Said, behind_legs, check, cuts_in, is_end, is_few, legs_of, plan_in, with_first}
use Rattle.nms_lines.specs.PlanRecords.{Head, cut_in, end_reading, head_in, leg_in}
use Rattle.nms_lines.specs.declared.line_fault.FaultPlace.{FaultPlace}

-- no plan without its record
pub no_head : (roster : Listing) (left : List Record) (fields : Record) (more : List Record) → left ≡ fields ∷ more
    → head_in roster fields ≡ None → plan_in roster left ≡ None
no_head roster left fields more is none = rw (is, none) refl

-- what is read of a thing that is there, if nothing else is said
pub if_ok_or : {A E : Type 0} (P : A → Type 0) (found : Option A) (fault : E) (result : Result A E) → result ≡ ok_or found fault
    → ((x : A) → found ≡ Some x → P x) → IfOk result P
if_ok_or P None fault result is all = rw is tt
if_ok_or P (Some x) fault result is all = rw is (all x refl)

none_after : {A B : Type 0} (found : Option A) (more : A → Option B) → ((x : A) → more x ≡ None) → (found >>= more) ≡ None
none_after None more none = refl
none_after (Some x) more none = none x

-- none if the legs are not followed by cuts and an end, or are too many
pub no_legs : (roster : Listing) (left : List Record) (fields : Record) (more : List Record) (head : Head) → left ≡ fields ∷ more
    → head_in roster fields ≡ Some head
    → (behind_legs roster more ≡ []) ⊎ (is_few (legs_of roster more) ≡ false) → plan_in roster left ≡ None
unfolding cuts_in
no_legs roster left fields more head is one (inl nothing) = rw (is, one, nothing) refl
no_legs roster left fields more head is one (inr many) =
    rw (is, one) (none_after (cuts_in (behind_legs roster more)) _ (λ cuts. rw many refl))

-- ---- legs

-- these legs were read, and these records are left of all
abbrev pub LegsRead : Listing → List Record → List Leg → List Record → Type 0
LegsRead roster all legs left = (legs_of roster all ≡ legs ++ legs_of roster left) × (behind_legs roster all ≡ behind_legs roster left)

pub legs_more : (roster : Listing) (all left more : List Record) (legs : List Leg) (fields : Record) (leg : Leg)
    → LegsRead roster all legs left → left ≡ fields ∷ more → leg_in roster fields ≡ Some leg → LegsRead roster all (legs ++ leg ∷ []) more
unfolding legs_of behind_legs
legs_more roster all left more legs fields leg was is one =
    let before = rw (is, one) at was.0 in
    let behind = rw (is, one) at was.1 in
    (before ∙ sym (append_assoc legs (leg ∷ []) (legs_of roster more)), behind)

pub legs_end : (roster : Listing) (all left more : List Record) (legs : List Leg) (fields : Record)
    → LegsRead roster all legs left → left ≡ fields ∷ more → leg_in roster fields ≡ None
    → (legs ≡ legs_of roster all) × (behind_legs roster all ≡ fields ∷ more)
unfolding legs_of behind_legs
legs_end roster all left more legs fields was is none =
    let before = rw (is, none, append-nil legs) at was.0 in
    let behind = rw (is, none) at was.1 in
    (sym before, behind)

pub legs_out : (roster : Listing) (all left : List Record) (legs : List Leg) → LegsRead roster all legs left → left ≡ []
    → behind_legs roster all ≡ []
unfolding behind_legs
legs_out roster all left legs was is = let behind = rw is at was.1 in behind

too_many : {A : Type 0} (list : List A) → 32 < length list → is_few list ≡ false
too_many list many = lt-leb (length list) 32 many

pub legs_many : (roster : Listing) (all left more : List Record) (legs : List Leg) (fields : Record) (leg : Leg)
    → LegsRead roster all legs left → left ≡ fields ∷ more → leg_in roster fields ≡ Some leg → 32 ≤ length legs
    → is_few (legs_of roster all) ≡ false
legs_many roster all left more legs fields leg was is one full =
    let next = legs_more roster all left more legs fields leg was is one in
    too_many (legs_of roster all) (rw next.0
    (omega (arith, length-append (legs ++ leg ∷ []) (legs_of roster more), length-append legs (leg ∷ []))))

pub legs_over : (roster : Listing) (all left : List Record) (legs : List Leg)
    → LegsRead roster all legs left → 33 ≤ length legs → is_few (legs_of roster all) ≡ false
legs_over roster all left legs was full = too_many (legs_of roster all) (rw was.0 (omega (arith, length-append legs (legs_of roster left))))

-- ---- cuts

-- these cuts were read, and these records are left of all
abbrev pub CutsRead : List Record → List Cut → List Record → Type 0
CutsRead all cuts left = cuts_in all ≡ option_map (λ more. cuts ++ more) (cuts_in left)

pub cuts_start : (all : List Record) → CutsRead all [] all
cuts_start all = sym (option_map_id (cuts_in all))

-- a record that is not an end
no_end : (fields : Record) (behind : List Record) → is_ok (end_reading fields) ≡ false → is_end fields behind ≡ false
no_end fields behind other = rw other refl

together : (cuts : List Cut) (cut : Cut) (more : Option (List Cut))
    → option_map (λ rest. cuts ++ rest) (with_first cut more) ≡ option_map (λ rest. (cuts ++ cut ∷ []) ++ rest) more
together cuts cut None = refl
together cuts cut (Some more) = ap (λ (list : List Cut). Some list) (sym (append_assoc cuts (cut ∷ []) more))

pub cuts_more : (all left : List Record) (cuts : List Cut) (fields : Record) (cut : Cut)
    → CutsRead all cuts (fields ∷ left) → is_ok (end_reading fields) ≡ false → cut_in fields ≡ Some cut
    → CutsRead all (cuts ++ cut ∷ []) left
unfolding cuts_in
cuts_more all left cuts fields cut was other one =
    let before = rw (no_end fields left other, one) at was in
    before ∙ together cuts cut (cuts_in left)

pub cuts_end : (all left : List Record) (cuts : List Cut) (fields : Record)
    → CutsRead all cuts (fields ∷ left) → is_ok (end_reading fields) ≡ true → left ≡ [] → cuts_in all ≡ Some cuts
unfolding cuts_in
cuts_end all left cuts fields was end is =
    let before = rw (is, end, append-nil cuts) at was in before

-- ---- if there is no certificate, or one of more cuts

abbrev pub NoCuts : List Record → Type 0
NoCuts all = IfSome (cuts_in all) (λ cuts. is_few cuts ≡ false)

none_is : (all : List Record) → cuts_in all ≡ None → NoCuts all
none_is all none = rw none tt

-- a record with the right number of fields, and one with another number
counted : (word counts : Bool) (first last : FaultPlace)
    → is_ok (refuse_if (not word) first then (λ named. refuse_if (not counts) last)) ≡ true → counts ≡ true
counted true true first last is = refl
counted true false first last is = cc
counted false counts first last is = cc

uncounted : {A : Type 0} (word counts : Bool) (first last : FaultPlace) (more : Unit {0} → Result A FaultPlace) → counts ≡ false
    → result_ok ((refuse_if (not word) first then (λ named. refuse_if (not counts) last)) then more) ≡ None
uncounted true true first last more is = cc
uncounted true false first last more is = refl
uncounted false counts first last more is = refl

-- an end is not a cut
end_no_cut : (fields : Record) → is_ok (end_reading fields) ≡ true → cut_in fields ≡ None
end_no_cut fields end =
    let one = eqb-true (length fields) 1 (counted (is_text (codes "END") (field fields 0)) (length fields == 1) _ _ end) in
    uncounted (is_text (codes "CUT") (field fields 0)) (length fields == 4) _ _ _ (ap (λ n. n == 4) one)

pub cuts_behind : (all left : List Record) (cuts : List Cut) (fields : Record)
    → CutsRead all cuts (fields ∷ left) → is_ok (end_reading fields) ≡ true → 0 < length left → NoCuts all
unfolding cuts_in
cuts_behind all left cuts fields was end some =
    let more = ne_eqb (length left) 0 (omega (arith, some)) in
    let before = rw (end, more, end_no_cut fields end) at was in
    none_is all before

pub cuts_bad : (all left : List Record) (cuts : List Cut) (fields : Record)
    → CutsRead all cuts (fields ∷ left) → is_ok (end_reading fields) ≡ false → cut_in fields ≡ None → NoCuts all
unfolding cuts_in
cuts_bad all left cuts fields was other none =
    let before = rw (no_end fields left other, none) at was in
    none_is all before

pub cuts_out : (all : List Record) (cuts : List Cut) (left : List Record) → CutsRead all cuts left → left ≡ [] → NoCuts all
unfolding cuts_in
cuts_out all cuts left was is =
    let before = rw is at was in
    none_is all before

-- more cuts than fit
over : (cuts : List Cut) (more : Option (List Cut)) → 32 < length cuts
    → IfSome (option_map (λ rest. cuts ++ rest) more) (λ list. is_few list ≡ false)
over cuts None many = tt
over cuts (Some more) many = too_many (cuts ++ more) (omega (arith, length-append cuts more))

pub cuts_over : (all : List Record) (cuts : List Cut) (left : List Record) → CutsRead all cuts left → 32 < length cuts → NoCuts all
cuts_over all cuts left was many = rw was (over cuts (cuts_in left) many)

pub cuts_many : (all left : List Record) (cuts : List Cut) (fields : Record) (cut : Cut)
    → CutsRead all cuts (fields ∷ left) → is_ok (end_reading fields) ≡ false → cut_in fields ≡ Some cut → 32 ≤ length cuts
    → NoCuts all
cuts_many all left cuts fields cut was other one full =
    cuts_over all (cuts ++ cut ∷ []) left (cuts_more all left cuts fields cut was other one) (omega (arith, length-append cuts (cut ∷ [])))

-- ---- the complete plan

few : {A : Type 0} (list : List A) → length list ≤ 32 → is_few list ≡ true
few list within = le-leb (length list) 32 within

pub plan_found : (roster : Listing) (all more rest : List Record) (fields row : Record) (head : Head) (legs : List Leg) (cuts : List Cut)
    → all ≡ fields ∷ more → head_in roster fields ≡ Some head → legs ≡ legs_of roster more → behind_legs roster more ≡ row ∷ rest
    → cuts_in (row ∷ rest) ≡ Some cuts → length legs ≤ 32 → length cuts ≤ 32
    → plan_in roster all ≡ Some (record { head = head; legs = legs; cuts = cuts })
plan_found roster all more rest fields row head legs cuts is one these behind cut within most =
    rw (is, one, behind, cut, ← these, few legs within, few cuts most) refl

-- too many cuts are none
abbrev made : Head → List Leg → List Cut → Option Said
made head legs cuts = do
  few ← check (is_few legs && is_few cuts)
  Some (record { head = head; legs = legs; cuts = cuts })

after_cuts : (head : Head) (legs : List Leg) (found : Option (List Cut)) → IfSome found (λ cuts. is_few cuts ≡ false)
    → (found >>= made head legs) ≡ None
after_cuts head legs None many = refl
after_cuts head legs (Some cuts) many = rw (many, and-false (is_few legs)) refl

pub no_cuts : (roster : Listing) (all more rest : List Record) (fields row : Record) (head : Head)
    → all ≡ fields ∷ more → head_in roster fields ≡ Some head → behind_legs roster more ≡ row ∷ rest → NoCuts (row ∷ rest)
    → plan_in roster all ≡ None
no_cuts roster all more rest fields row head is one behind none =
    rw (is, one, behind) (after_cuts head (legs_of roster more) (cuts_in (row ∷ rest)) none)
