-- The records of a plan's text are read as a plan exactly when none is wrong and none is missing: the end, then the cuts before
-- it, then the legs before them, then the record of the plan.
use Rattle.std.proofs.Common.{arith, ◌≡◌, ◌≤◌, ◌<◌, ◌+◌, ◌∙◌, ◌++◌, ◌∷◌, ◌&&◌, ◌||◌, ◌==◌, [], List, ℕ, Bool, true, false, Option, Some}
use Rattle.std.proofs.Common.{None, length, refl, sym, ap, ap₂, append_assoc, cond, if◌then◌else◌}
use Rattle.std.specs.Prelude.{Result, Ok, Err, codes, count_by, is_none, is_ok, is_some, nat_le, nat_lt, not}
use Rattle.std.specs.Result.{result_err, result_ok}
use Rattle.std.proofs.lemmas.Bool.{le-leb, lt-leb, ltb-false, ltb-true, ne_eqb}
use Rattle.std.proofs.lemmas.List.{append-nil}
use Rattle.std.proofs.lemmas.List.Sums.{sum_by-cons, sum_by_push}
use Rattle.std.proofs.lemmas.Slice.Eq.{bytes_eq-Decides}
use Rattle.nms_quote.specs.Roster.{Listing}
use Rattle.nms_quote.specs.declared.certificate.Cut.{Cut}
use Rattle.nms_quote.specs.declared.plan.Leg.{Leg}
use Rattle.nms_lines.specs.Layout.{Record, field, is_text}
use Rattle.nms_lines.specs.Faults.{◌>>=◌ as ◌then◌, refuse_if}
use Rattle.nms_lines.specs.PlanReading.{◌>>=◌, Said, behind_leg, behind_legs, check, cuts_in, is_end, is_few, leg_before, legs_of, plan_in}
use Rattle.nms_lines.specs.PlanReading.{with_first}
use Rattle.nms_lines.specs.PlanRecords.{Head, cut_in, cut_reading, end_reading, head_in, head_reading, leg_in, leg_reading, wrong_as}
use Rattle.nms_lines.specs.declared.line_fault.FaultPlace.{FaultPlace}
use Rattle.nms_lines.specs.declared.plan_record.PlanRecord.TheVariants as record_of
use Rattle.nms_explain.specs.PlanOrder.{ReadsWhereNoRecordIsWrong, count_after, count_next, due_after, due_next, due_place, is_ended}
use Rattle.nms_explain.specs.PlanOrder.{trouble_after, trouble_by, troubles_after, wrong_in}
use Rattle.nms_explain.specs.declared.places.plan_walk.PlanDue.{PlanDue}
use Rattle.nms_explain.specs.declared.places.plan_walk.PlanDue.TheVariants as due
use Rattle.nms_explain.specs.declared.places.plan_walk.PlanTrouble.{PlanTrouble}
use Rattle.nms_explain.proofs.WalkFacts.{count_more, due_more}

-- ---- record by record

-- none of these is wrong, nor missing after them, by what is due and how many of the list came
abbrev walks : Listing → PlanDue → ℕ → List Record → Bool
walks roster due count [] = is_ended due
walks roster due count (fields ∷ more) =
    is_none (trouble_by (due_place due roster fields) (nat_lt 32 (count_next due count (field fields 0))))
    && walks roster (due_next due (field fields 0)) (count_next due count (field fields 0)) more

and_and : (a b c : Bool) → ((a && b) && c) ≡ (a && (b && c))
and_and true b c = refl
and_and false b c = refl

-- how many are wrong is zero if the first is not, and none of the others
none_more : (it : Option PlanTrouble) (more : List (Option PlanTrouble))
    → (count_by is_some (it ∷ more) == 0) ≡ (is_none it && (count_by is_some more == 0))
none_more None more = ap (λ (n : ℕ). n == 0) (sum_by-cons (λ x. cond (is_some x) 1 0) None more ∙ omega arith)
none_more (Some trouble) more =
    ne_eqb (count_by is_some (Some trouble ∷ more)) 0 (omega (arith, sum_by-cons (λ x. cond (is_some x) 1 0) (Some trouble) more))

right_from : (roster : Listing) (before records : List Record)
    → ((count_by is_some (troubles_after roster before records) == 0) && is_ended (due_after (before ++ records)))
    ≡ walks roster (due_after before) (count_after before) records
unfolding troubles_after
right_from roster before [] = ap (λ (all : List Record). is_ended (due_after all)) (append-nil before)
right_from roster before (fields ∷ more) =
    ap₂ (λ (a : Bool) (all : List Record). a && is_ended (due_after all))
    (none_more (trouble_after roster before fields) (troubles_after roster (before ++ fields ∷ []) more))
    (sym (append_assoc before (fields ∷ []) more))
    ∙ and_and (is_none (trouble_after roster before fields)) (count_by is_some (troubles_after roster (before ++ fields ∷ []) more) == 0)
    (is_ended (due_after ((before ++ fields ∷ []) ++ more)))
    ∙ ap (λ (b : Bool). is_none (trouble_after roster before fields) && b) (right_from roster (before ++ fields ∷ []) more)
    ∙ ap₂ (λ (n m : ℕ). is_none (trouble_by (due_place (due_after before) roster fields) (nat_lt 32 n))
    && walks roster (due_after (before ++ fields ∷ [])) m more)
    (count_more before fields) (count_more before fields)
    ∙ ap (λ (it : PlanDue). is_none (trouble_by (due_place (due_after before) roster fields)
    (nat_lt 32 (count_next (due_after before) (count_after before) (field fields 0))))
    && walks roster it (count_next (due_after before) (count_after before) (field fields 0)) more) (due_more before fields)

-- one record more is one more that is wrong, or none
troubles_more : (roster : Listing) (before more : List Record) (fields : Record)
    → troubles_after roster before (more ++ fields ∷ [])
    ≡ troubles_after roster before more ++ trouble_after roster (before ++ more) fields ∷ []
unfolding troubles_after
troubles_more roster before [] fields =
    ap (λ (all : List Record). trouble_after roster all fields ∷ []) (sym (append-nil before))
troubles_more roster before (one ∷ more) fields =
    ap (λ (them : List (Option PlanTrouble)). trouble_after roster before one ∷ them)
    (troubles_more roster (before ++ one ∷ []) more fields)
    ∙ ap (λ (all : List Record). trouble_after roster before one ∷ (troubles_after roster (before ++ one ∷ []) more
    ++ trouble_after roster all fields ∷ [])) (append_assoc before (one ∷ []) more)

pub wrong_more : (roster : Listing) (seen : List Record) (fields : Record)
    → wrong_in roster (seen ++ fields ∷ []) ≡ wrong_in roster seen + cond (is_some (trouble_after roster seen fields)) 1 0
wrong_more roster seen fields =
    ap (count_by is_some) (troubles_more roster [] seen fields)
    ∙ sum_by_push (λ x. cond (is_some x) 1 0) (troubles_after roster [] seen) (trouble_after roster seen fields)

-- ---- words

-- a record that begins with a word begins with no other
other_word : (word other text : List ℕ) → is_text other word ≡ false → is_text word text ≡ true → is_text other text ≡ false
other_word word other text differ is = ap (λ (it : List ℕ). is_text other it) ((bytes_eq-Decides text word).0 is) ∙ differ

-- a record of another word is not read
unread : {A : Type 0} (word : Bool) (at : FaultPlace) (rest : Unit {0} → Result (Unit {0}) FaultPlace) (more : Unit {0} → Result A FaultPlace)
    → word ≡ false → result_ok ((refuse_if (not word) at then rest) then more) ≡ None
unread true at rest more lacks = cc
unread false at rest more lacks = refl

no_cut : (fields : Record) → is_text (codes "CUT") (field fields 0) ≡ false → cut_in fields ≡ None
no_cut fields lacks = unread (is_text (codes "CUT") (field fields 0)) _ _ _ lacks

no_leg : (roster : Listing) (fields : Record) → is_text (codes "LEG") (field fields 0) ≡ false → leg_in roster fields ≡ None
no_leg roster fields lacks = unread (is_text (codes "LEG") (field fields 0)) _ _ _ lacks

not_ended : (word : Bool) (at : FaultPlace) (rest : Unit {0} → Result (Unit {0}) FaultPlace) → word ≡ false
    → is_ok (refuse_if (not word) at then rest) ≡ false
not_ended true at rest lacks = cc
not_ended false at rest lacks = refl

no_end : (fields : Record) → is_text (codes "END") (field fields 0) ≡ false → is_ok (end_reading fields) ≡ false
no_end fields lacks = not_ended (is_text (codes "END") (field fields 0)) _ _ lacks

-- a record is read exactly if it is wrong nowhere
right_is_read : {A : Type 0} (read : Result A FaultPlace) → is_none (result_err read) ≡ is_some (result_ok read)
right_is_read (Ok said) = refl
right_is_read (Err at) = refl

right_is_ok : {A : Type 0} (read : Result A FaultPlace) → is_none (result_err read) ≡ is_ok read
right_is_ok (Ok said) = refl
right_is_ok (Err at) = refl

no_trouble : (place : Option FaultPlace) → is_none (trouble_by place false) ≡ is_none place
no_trouble None = refl
no_trouble (Some at) = refl

-- ---- the end

of_nothing : (roster : Listing) (count : ℕ) (records : List Record) → walks roster due.Nothing count records ≡ (length records == 0)
of_nothing roster count [] = refl
of_nothing roster count (fields ∷ more) = sym (ne_eqb (length (fields ∷ more)) 0 (omega arith))

-- a record where a cut is due, by whether it is an end
abbrev cut_walk : Listing → Bool → Record → ℕ → List Record → Bool
cut_walk roster end fields count more =
    is_none (trouble_by (wrong_as (if end then record_of.End else record_of.Cut) roster fields) (nat_lt 32 (if end then 0 else count)))
    && walks roster (if end then due.Nothing else due.Cut) (if end then 0 else count) more

by_end : (roster : Listing) (count : ℕ) (fields : Record) (more : List Record) → is_text (codes "END") (field fields 0) ≡ true
    → cut_walk roster (is_text (codes "END") (field fields 0)) fields count more ≡ is_end fields more
by_end roster count fields more is =
    ap (λ (b : Bool). cut_walk roster b fields count more) is
    ∙ ap₂ (λ (a b : Bool). a && b) (no_trouble (wrong_as record_of.End roster fields) ∙ right_is_ok (end_reading fields))
    (of_nothing roster 0 more)

-- ---- the cuts

-- there are cuts, and with n before them no more than 32
abbrev cuts_fit : ℕ → Option (List Cut) → Bool
cuts_fit count found = is_some (found >>= (λ cuts. check (nat_le (count + length cuts) 32)))

ended_fit : (end : Bool) (count : ℕ) (other : Option (List Cut)) → count ≤ 32 → other ≡ None
    → cuts_fit count (if end then Some [] else other) ≡ end
ended_fit true count other within none = ap (λ (b : Bool). is_some (check b)) (le-leb (count + 0) 32 (omega (arith, within)))
ended_fit false count other within none = ap (λ (it : Option (List Cut)). cuts_fit count it) none

more_fit : (count : ℕ) (cut : Cut) (found : Option (List Cut)) → cuts_fit (count + 1) found ≡ cuts_fit count (with_first cut found)
more_fit count cut None = refl
more_fit count cut (Some cuts) = ap (λ (n : ℕ). is_some (check (nat_le n 32))) (omega arith)

none_fit : (count : ℕ) (cut : Cut) (found : Option (List Cut)) → 32 < count + 1 → false ≡ cuts_fit count (with_first cut found)
none_fit count cut None many = refl
none_fit count cut (Some cuts) many =
    ap (λ (b : Bool). is_some (check b)) (sym (lt-leb (count + length (cut ∷ cuts)) 32 (omega (arith, many))))

one_cut : (place : Option FaultPlace) (cut : Option Cut) (count : ℕ) (walked : Bool) (found : Option (List Cut)) → is_none place ≡ is_some cut
    → (count + 1 ≤ 32 → walked ≡ cuts_fit (count + 1) found)
    → (is_none (trouble_by place (nat_lt 32 (count + 1))) && walked) ≡ cuts_fit count (cut >>= (λ it. with_first it found))
one_cut (Some at) None count walked found is rest = refl
one_cut (Some at) (Some cut) count walked found is rest = cc
one_cut None None count walked found is rest = cc
one_cut None (Some cut) count walked found is rest = go (nat_lt 32 (count + 1)) refl
  where
    go : (many : Bool) → nat_lt 32 (count + 1) ≡ many
        → (is_none (trouble_by None many) && walked) ≡ cuts_fit count (with_first cut found)
    go true many = none_fit count cut found (ltb-true 32 (count + 1) many)
    go false few = rest (ltb-false 32 (count + 1) few) ∙ more_fit count cut found

of_cuts : (roster : Listing) (count : ℕ) (records : List Record) → count ≤ 32
    → walks roster due.Cut count records ≡ cuts_fit count (cuts_in records)
unfolding cuts_in
of_cuts roster count [] within = refl
of_cuts roster count (fields ∷ more) within =
    go (is_text (codes "END") (field fields 0)) refl (λ next. of_cuts roster (count + 1) more next)
  where
    go : (end : Bool) → is_text (codes "END") (field fields 0) ≡ end
        → (count + 1 ≤ 32 → walks roster due.Cut (count + 1) more ≡ cuts_fit (count + 1) (cuts_in more))
        → walks roster due.Cut count (fields ∷ more)
        ≡ cuts_fit count (if is_end fields more then Some [] else (cut_in fields >>= (λ cut. with_first cut (cuts_in more))))
    go true is rest =
        by_end roster (count + 1) fields more is
        ∙ sym (ended_fit (is_end fields more) count _ within (ap (λ (it : Option Cut). it >>= (λ cut. with_first cut (cuts_in more)))
        (no_cut fields (other_word (codes "END") (codes "CUT") (field fields 0) refl is))))
    go false not_end rest =
        ap (λ (b : Bool). cut_walk roster b fields (count + 1) more) not_end
        ∙ one_cut (wrong_as record_of.Cut roster fields) (cut_in fields) count (walks roster due.Cut (count + 1) more) (cuts_in more)
        (right_is_read (cut_reading fields)) rest
        ∙ ap (λ (b : Bool). cuts_fit count (if b && (length more == 0) then Some []
        else (cut_in fields >>= (λ cut. with_first cut (cuts_in more))))) (sym (no_end fields not_end))

-- ---- two tests

either_is : (a b : Bool) → a ≡ true → (a || b) ≡ true
either_is a b is = ap (λ (it : Bool). it || b) is

or_is : (a b : Bool) → b ≡ true → (a || b) ≡ true
or_is true b is = refl
or_is false b is = is

zero_before : (n : ℕ) → 0 + n ≡ n
zero_before n = omega arith

made : {A : Type 0} (passed : Bool) (it : A) → is_some (check passed) ≡ is_some (check passed >>= (λ few. Some it))
made true it = refl
made false it = refl

-- ---- the legs

-- there are legs, with n before them no more than 32, and cuts, no more than 32
abbrev legs_fit : ℕ → Option (List Cut) → List Leg → Bool
legs_fit count found legs = is_some (found >>= (λ cuts. check (nat_le (count + length legs) 32 && nat_le (length cuts) 32)))

-- a record where a leg is due, by whether it is an end or a cut
abbrev leg_walk : Listing → Bool → Bool → Record → ℕ → List Record → Bool
leg_walk roster end cut fields count more =
    is_none (trouble_by (wrong_as (if end then record_of.End else (if cut then record_of.Cut else record_of.Leg)) roster fields)
    (nat_lt 32 (if end then 0 else (if cut then 1 else count))))
    && walks roster (if end then due.Nothing else (if cut then due.Cut else due.Leg)) (if end then 0 else (if cut then 1 else count)) more

-- the record after the legs is where a cut is due
leg_as_cut : (roster : Listing) (end cut : Bool) (fields : Record) (count : ℕ) (more : List Record) → (end || cut) ≡ true
    → leg_walk roster end cut fields count more ≡ cut_walk roster end fields 1 more
leg_as_cut roster true cut fields count more later = refl
leg_as_cut roster false true fields count more later = refl
leg_as_cut roster false false fields count more later = cc

-- so no leg comes after it
no_more_legs : (count : ℕ) (found : Option (List Cut)) → count ≤ 32 → cuts_fit 0 found ≡ legs_fit count found []
no_more_legs count None within = refl
no_more_legs count (Some cuts) within =
    ap₂ (λ (b : Bool) (n : ℕ). is_some (check (b && nat_le n 32))) (sym (le-leb (count + 0) 32 (omega (arith, within))))
    (zero_before (length cuts))

more_legs : (count : ℕ) (leg : Leg) (found : Option (List Cut)) (legs : List Leg)
    → legs_fit (count + 1) found legs ≡ legs_fit count found (leg ∷ legs)
more_legs count leg None legs = refl
more_legs count leg (Some cuts) legs = ap (λ (n : ℕ). is_some (check (nat_le n 32 && nat_le (length cuts) 32))) (omega arith)

many_legs : (count : ℕ) (leg : Leg) (found : Option (List Cut)) (legs : List Leg) → 32 < count + 1
    → false ≡ legs_fit count found (leg ∷ legs)
many_legs count leg None legs many = refl
many_legs count leg (Some cuts) legs many =
    ap (λ (b : Bool). is_some (check (b && nat_le (length cuts) 32))) (sym (lt-leb (count + length (leg ∷ legs)) 32 (omega (arith, many))))

one_leg : (place : Option FaultPlace) (leg : Option Leg) (count : ℕ) (walked : Bool) (here next : List Record) (legs : List Leg)
    → is_none place ≡ is_some leg → cuts_in here ≡ None → (count + 1 ≤ 32 → walked ≡ legs_fit (count + 1) (cuts_in next) legs)
    → (is_none (trouble_by place (nat_lt 32 (count + 1))) && walked)
    ≡ legs_fit count (cuts_in (behind_leg leg here next)) (leg_before leg legs)
one_leg (Some at) None count walked here next legs is none rest = ap (λ (it : Option (List Cut)). legs_fit count it []) (sym none)
one_leg (Some at) (Some leg) count walked here next legs is none rest = cc
one_leg None None count walked here next legs is none rest = cc
one_leg None (Some leg) count walked here next legs is none rest = go (nat_lt 32 (count + 1)) refl
  where
    go : (many : Bool) → nat_lt 32 (count + 1) ≡ many
        → (is_none (trouble_by None many) && walked) ≡ legs_fit count (cuts_in next) (leg ∷ legs)
    go true many = many_legs count leg (cuts_in next) legs (ltb-true 32 (count + 1) many)
    go false few = rest (ltb-false 32 (count + 1) few) ∙ more_legs count leg (cuts_in next) legs

-- a record that is neither an end nor a cut does not begin the cuts
no_cuts : (fields : Record) (more : List Record) → is_text (codes "END") (field fields 0) ≡ false
    → is_text (codes "CUT") (field fields 0) ≡ false → cuts_in (fields ∷ more) ≡ None
unfolding cuts_in
no_cuts fields more not_end not_cut =
    ap₂ (λ (b : Bool) (it : Option Cut). if b && (length more == 0) then Some []
    else (it >>= (λ cut. with_first cut (cuts_in more)))) (no_end fields not_end) (no_cut fields not_cut)

of_legs : (roster : Listing) (count : ℕ) (records : List Record) → count ≤ 32
    → walks roster due.Leg count records ≡ legs_fit count (cuts_in (behind_legs roster records)) (legs_of roster records)
unfolding behind_legs cuts_in legs_of
of_legs roster count [] within = refl
of_legs roster count (fields ∷ more) within =
    go (is_text (codes "END") (field fields 0)) (is_text (codes "CUT") (field fields 0)) refl refl
    (λ next. of_legs roster (count + 1) more next)
  where
    after : is_text (codes "LEG") (field fields 0) ≡ false → cuts_fit 0 (cuts_in (fields ∷ more))
        ≡ legs_fit count (cuts_in (behind_leg (leg_in roster fields) (fields ∷ more) (behind_legs roster more)))
        (leg_before (leg_in roster fields) (legs_of roster more))
    after lacks =
        no_more_legs count (cuts_in (fields ∷ more)) within
        ∙ ap (λ (it : Option Leg). legs_fit count (cuts_in (behind_leg it (fields ∷ more) (behind_legs roster more)))
        (leg_before it (legs_of roster more))) (sym (no_leg roster fields lacks))

    go : (end cut : Bool) → is_text (codes "END") (field fields 0) ≡ end → is_text (codes "CUT") (field fields 0) ≡ cut
        → (count + 1 ≤ 32 → walks roster due.Leg (count + 1) more
        ≡ legs_fit (count + 1) (cuts_in (behind_legs roster more)) (legs_of roster more))
        → walks roster due.Leg count (fields ∷ more)
        ≡ legs_fit count (cuts_in (behind_leg (leg_in roster fields) (fields ∷ more) (behind_legs roster more)))
        (leg_before (leg_in roster fields) (legs_of roster more))
    go false false not_end not_cut rest =
        ap₂ (λ (e c : Bool). leg_walk roster e c fields (count + 1) more) not_end not_cut
        ∙ one_leg (wrong_as record_of.Leg roster fields) (leg_in roster fields) count (walks roster due.Leg (count + 1) more)
        (fields ∷ more) (behind_legs roster more) (legs_of roster more) (right_is_read (leg_reading roster fields))
        (no_cuts fields more not_end not_cut) rest
    go true cut end is_cut rest =
        leg_as_cut roster (is_text (codes "END") (field fields 0)) (is_text (codes "CUT") (field fields 0)) fields (count + 1) more
        (either_is (is_text (codes "END") (field fields 0)) _ end)
        ∙ of_cuts roster 0 (fields ∷ more) (omega arith)
        ∙ after (other_word (codes "END") (codes "LEG") (field fields 0) refl end)
    go false true not_end cut rest =
        leg_as_cut roster (is_text (codes "END") (field fields 0)) (is_text (codes "CUT") (field fields 0)) fields (count + 1) more
        (or_is (is_text (codes "END") (field fields 0)) _ cut)
        ∙ of_cuts roster 0 (fields ∷ more) (omega arith)
        ∙ after (other_word (codes "CUT") (codes "LEG") (field fields 0) refl cut)

-- ---- all records together

abbrev said_of : Head → List Leg → List Cut → Said
said_of head legs cuts = record { head = head; legs = legs; cuts = cuts }

said : (head : Option Head) (found : Option (List Cut)) (legs : List Leg)
    → (is_some head && legs_fit 0 found legs)
    ≡ is_some (head >>= (λ it. found >>= (λ cuts. check (is_few legs && is_few cuts) >>= (λ few.
    Some (said_of it legs cuts)))))
said None found legs = refl
said (Some head) None legs = refl
said (Some head) (Some cuts) legs =
    ap (λ (n : ℕ). is_some (check (nat_le n 32 && is_few cuts))) (zero_before (length legs))
    ∙ made (is_few legs && is_few cuts) _

of_plan : (roster : Listing) (records : List Record) → walks roster due.Plan 0 records ≡ is_some (plan_in roster records)
of_plan roster [] = refl
of_plan roster (fields ∷ more) =
    ap₂ (λ (a b : Bool). a && b) (no_trouble (wrong_as record_of.Plan roster fields) ∙ right_is_read (head_reading roster fields))
    (of_legs roster 0 more (omega arith))
    ∙ said (head_in roster fields) (cuts_in (behind_legs roster more)) (legs_of roster more)

pub reads_where_no_record_is_wrong : ReadsWhereNoRecordIsWrong
reads_where_no_record_is_wrong roster records = right_from roster [] records ∙ of_plan roster records
