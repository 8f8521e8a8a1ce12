-- A walk over the records of a plan's text, one record further: what is due then, and how many legs or cuts came.
use Rattle.std.proofs.Common.{arith, ◌≡◌, ◌<◌, ◌≤◌, ℕ, ◌+◌, ◌∙◌, ◌++◌, ◌∷◌, ◌||◌, [], List, Bool, true, false, Some, None, length, min}
use Rattle.std.proofs.Common.{refl, sym, ap, ap₂}
use Rattle.std.proofs.Common.{if◌then◌else◌}
use Rattle.std.specs.Prelude.{codes, nat_lt}
use Rattle.std.proofs.lemmas.Bool.{le-ltb, lt-ltb}
use Rattle.std.proofs.lemmas.List.{length-append}
use Rattle.std.proofs.lemmas.List.Folds.{list_any-append}
use Rattle.nms_quote.specs.Roster.{Listing}
use Rattle.nms_lines.specs.Layout.{Record, field, is_text}
use Rattle.nms_explain.specs.PlanOrder.{HasPassed, begins, count_after, count_next, due_after, due_next, due_place, from_cut, has_word}
use Rattle.nms_explain.specs.PlanOrder.{trouble_after, trouble_by}
use Rattle.nms_explain.specs.declared.places.plan_walk.PlanDue.{PlanDue}
use Rattle.nms_explain.specs.declared.places.plan_walk.PlanDue.TheVariants as due
use Rattle.nms_explain.specs.declared.places.plan_walk.PlanTrouble.TheVariants as trouble
use Rattle.nms_explain.specs.declared.places.plan_walk.PlanWalk.{PlanWalk}

-- ---- words

or_false : (b : Bool) → (b || false) ≡ b
or_false true = refl
or_false false = refl

has_more : (word : List ℕ) (more : List Record) (fields : Record)
    → has_word word (more ++ fields ∷ []) ≡ (has_word word more || begins word fields)
has_more word more fields =
    list_any-append (begins word) more (fields ∷ []) ∙ ap (λ (b : Bool). has_word word more || b) (or_false (begins word fields))

-- ---- what is due

due_step : (ended cut end_now cut_now : Bool)
    → (if ended || end_now then due.Nothing else (if cut || cut_now then due.Cut else due.Leg))
    ≡ (if ended then due.Nothing else (if cut then (if end_now then due.Nothing else due.Cut)
    else (if end_now then due.Nothing else (if cut_now then due.Cut else due.Leg))))
due_step true cut end_now cut_now = refl
due_step false true true cut_now = refl
due_step false true false cut_now = refl
due_step false false true cut_now = refl
due_step false false false true = refl
due_step false false false false = refl

next_by : (ended cut : Bool) (word : List ℕ)
    → due_next (if ended then due.Nothing else (if cut then due.Cut else due.Leg)) word
    ≡ (if ended then due.Nothing else (if cut then due_next due.Cut word else due_next due.Leg word))
next_by true cut word = refl
next_by false true word = refl
next_by false false word = refl

pub due_more : (before : List Record) (fields : Record) → due_after (before ++ fields ∷ []) ≡ due_next (due_after before) (field fields 0)
due_more [] fields = refl
due_more (first ∷ more) fields =
    ap₂ (λ (e c : Bool). if e then due.Nothing else (if c then due.Cut else due.Leg)) (has_more (codes "END") more fields)
    (has_more (codes "CUT") more fields)
    ∙ due_step (has_word (codes "END") more) (has_word (codes "CUT") more) (begins (codes "END") fields) (begins (codes "CUT") fields)
    ∙ sym (next_by (has_word (codes "END") more) (has_word (codes "CUT") more) (field fields 0))

-- ---- how many legs came, or cuts

-- the cuts go on with a record after the first
cuts_more : (more : List Record) (fields : Record)
    → length (from_cut (more ++ fields ∷ []))
    ≡ (if has_word (codes "CUT") more then length (from_cut more) + 1 else (if begins (codes "CUT") fields then 1 else 0))
unfolding from_cut
cuts_more [] fields = only (begins (codes "CUT") fields)
  where
    only : (cut : Bool) → length (if cut then fields ∷ [] else []) ≡ (if cut then 1 else 0)
    only true = refl
    only false = refl
cuts_more (one ∷ more) fields = go (begins (codes "CUT") one) (cuts_more more fields)
  where
    go : (cut : Bool) → length (from_cut (more ++ fields ∷ []))
        ≡ (if has_word (codes "CUT") more then length (from_cut more) + 1 else (if begins (codes "CUT") fields then 1 else 0))
        → length (if cut then one ∷ (more ++ fields ∷ []) else from_cut (more ++ fields ∷ []))
        ≡ (if cut || has_word (codes "CUT") more then length (if cut then one ∷ more else from_cut more) + 1
        else (if begins (codes "CUT") fields then 1 else 0))
    go true rest = length-append (one ∷ more) (fields ∷ [])
    go false rest = rest

count_step : (ended cut end_now cut_now : Bool) (cuts all legs : ℕ)
    → cuts ≡ (if cut then all + 1 else (if cut_now then 1 else 0))
    → (if ended || end_now then 0 else (if cut || cut_now then cuts else legs + 1))
    ≡ (if ended then 0 else (if cut then (if end_now then 0 else all + 1)
    else (if end_now then 0 else (if cut_now then 1 else legs + 1))))
count_step true cut end_now cut_now cuts all legs is = refl
count_step false true true cut_now cuts all legs is = refl
count_step false true false cut_now cuts all legs is = is
count_step false false true cut_now cuts all legs is = refl
count_step false false false true cuts all legs is = is
count_step false false false false cuts all legs is = refl

-- the length of the list, the cuts' or the legs'
length_by : (ended cut : Bool) (cuts legs : List Record)
    → length (if ended then [] else (if cut then cuts else legs)) ≡ (if ended then 0 else (if cut then length cuts else length legs))
length_by true cut cuts legs = refl
length_by false true cuts legs = refl
length_by false false cuts legs = refl

next_count_by : (ended cut : Bool) (cuts legs : ℕ) (word : List ℕ)
    → count_next (if ended then due.Nothing else (if cut then due.Cut else due.Leg))
    (if ended then 0 else (if cut then cuts else legs)) word
    ≡ (if ended then 0 else (if cut then count_next due.Cut cuts word else count_next due.Leg legs word))
next_count_by true cut cuts legs word = refl
next_count_by false true cuts legs word = refl
next_count_by false false cuts legs word = refl

pub count_more : (before : List Record) (fields : Record)
    → count_after (before ++ fields ∷ []) ≡ count_next (due_after before) (count_after before) (field fields 0)
count_more [] fields = refl
count_more (first ∷ more) fields =
    length_by (has_word (codes "END") (more ++ fields ∷ [])) (has_word (codes "CUT") (more ++ fields ∷ []))
    (from_cut (more ++ fields ∷ [])) (more ++ fields ∷ [])
    ∙ ap (λ (n : ℕ). if has_word (codes "END") (more ++ fields ∷ []) then 0
    else (if has_word (codes "CUT") (more ++ fields ∷ []) then length (from_cut (more ++ fields ∷ [])) else n))
    (length-append more (fields ∷ []))
    ∙ ap₂ (λ (e c : Bool). if e then 0 else (if c then length (from_cut (more ++ fields ∷ [])) else length more + 1))
    (has_more (codes "END") more fields) (has_more (codes "CUT") more fields)
    ∙ count_step (has_word (codes "END") more) (has_word (codes "CUT") more) (begins (codes "END") fields) (begins (codes "CUT") fields)
    (length (from_cut (more ++ fields ∷ []))) (length (from_cut more)) (length more) (cuts_more more fields)
    ∙ sym (next_count_by (has_word (codes "END") more) (has_word (codes "CUT") more) (length (from_cut more)) (length more)
    (field fields 0))
    ∙ ap (λ (n : ℕ). count_next (due_after (first ∷ more)) n (field fields 0))
    (sym (length_by (has_word (codes "END") more) (has_word (codes "CUT") more) (from_cut more) more))

-- ---- the walk

-- a count that stops at 33 goes on as the other does
held_step : (due : PlanDue) (count : ℕ) (word : List ℕ)
    → min 33 (count_next due (min 33 count) word) ≡ min 33 (count_next due count word)
held_step due.Plan count word = refl
held_step due.Leg count word = go (is_text (codes "END") word) (is_text (codes "CUT") word)
  where
    go : (end cut : Bool) → min 33 (if end then 0 else (if cut then 1 else min 33 count + 1))
        ≡ min 33 (if end then 0 else (if cut then 1 else count + 1))
    go true cut = refl
    go false true = refl
    go false false = omega arith
held_step due.Cut count word = go (is_text (codes "END") word)
  where
    go : (end : Bool) → min 33 (if end then 0 else min 33 count + 1) ≡ min 33 (if end then 0 else count + 1)
    go true = refl
    go false = omega arith
held_step due.Nothing count word = refl

pub passed_more : (before : List Record) (fields : Record) (word : List ℕ) (old new : PlanWalk) → word ≡ field fields 0
    → HasPassed before old → new.due ≡ due_next old.due word → new.count ≡ min 33 (count_next old.due old.count word)
    → HasPassed (before ++ fields ∷ []) new
passed_more before fields word old new is passed goes counts = record {
  due = goes ∙ ap₂ due_next passed.due is ∙ sym (due_more before fields);
  count =
      counts
      ∙ ap (λ (text : List ℕ). min 33 (count_next old.due old.count text)) is
      ∙ ap₂ (λ (it : PlanDue) (n : ℕ). min 33 (count_next it n (field fields 0))) passed.due passed.count
      ∙ held_step (due_after before) (count_after before) (field fields 0)
      ∙ ap (min 33) (sym (count_more before fields));
}

-- what is wrong with the record, if its place is right: it is one too many, or nothing
module _ (roster : Listing) (before : List Record) (fields : Record) (old new : PlanWalk) (was : HasPassed before old)
    (passed : HasPassed (before ++ fields ∷ []) new) (right : due_place old.due roster fields ≡ None) where
  by_count : (many : Bool) → nat_lt 32 (count_after (before ++ fields ∷ [])) ≡ many
      → trouble_by None many ≡ trouble_after roster before fields
  by_count many is =
      ap₂ trouble_by (sym right ∙ ap (λ (it : PlanDue). due_place it roster fields) was.due) (sym is)

  pub one_too_many : 32 < new.count → Some trouble.TooMany ≡ trouble_after roster before fields
  one_too_many many = by_count true (lt-ltb 32 _ (omega (arith, many, passed.count)))

  pub not_too_many : new.count ≤ 32 → None ≡ trouble_after roster before fields
  not_too_many few = by_count false (le-ltb 32 _ (omega (arith, few, passed.count)))
