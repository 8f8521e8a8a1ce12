-- The outcomes of texts, how many there are of each, and how a request ends by them.
use Rattle.std.proofs.Common.{ℕ, ◌≡◌, ◌+◌, ◌<◌, ◌≤◌, ◌++◌, ◌∷◌, ◌∙◌, [], Bool, true, false, suc, List, Option, Some, length, refl, sym}
use Rattle.std.proofs.Common.{subst}
use Rattle.std.proofs.Common.{arith, ap, inl, inr, if◌then◌else◌, get_or, take}
use Rattle.std.specs.Prelude.{◌⊎◌, Any, IfOk, IsPermutation, Result, Ok, Err, filter, nat_lt}
use Rattle.std.specs.List.{AllByRecursion, AllZip}
use Rattle.std.proofs.lemmas.Bool.{ltb-false, ltb-true}
use Rattle.std.proofs.lemmas.List.{length_push, map-append, take_all, take_more}
use Rattle.std.proofs.lemmas.List.Elements.{All-from_recursion}
use Rattle.std.proofs.lemmas.List.Sorted.{All-permutation, Contains-permutation, IsPermutation-sym}
use Rattle.nms_quote.specs.Roster.{Listing}
use Rattle.nms_quote.specs.Tape.{Tape}
use Rattle.nms_quote.specs.declared.certificate.Cut.{Cut}
use Rattle.nms_quote.specs.declared.plan.Plan.{Plan}
use Rattle.nms_lines.specs.Layout.{Record}
use Rattle.nms_lines.specs.PlanReading.{plan_in, said_by}
use Rattle.nms_lines.specs.Records.{AreAllRecords}
use Rattle.nms_fees.specs.Settings.{Settings}
use Rattle.nms_files.specs.ChangeFile.{IsFileTape}
use Rattle.nms_show.specs.declared.ending.Ending.{Ending}
use Rattle.nms_show.specs.declared.ending.Ending.TheVariants as ending
use Rattle.nms_verdicts.specs.Checked.{AreCounts, EndsByAll, IsChecked, IsConfirmed, IsDoubted, IsOutcome, IsOutcomeOf, IsUnreadable}
use Rattle.nms_verdicts.specs.Checked.{counted}
use Rattle.nms_verdicts.specs.Checked.{ending_by, is_confirmed, is_doubted, is_unreadable, outcome_of}
use Rattle.nms_verdicts.specs.Begun.{texts_of}
use Rattle.nms_verdicts.specs.Pieces.{ArePieces}
use Rattle.nms_verdicts.specs.Verdicts.{IsVerdict}
use Rattle.nms_verdicts.specs.declared.checking.Counts.{Counts}
use Rattle.nms_verdicts.specs.declared.checking.Outcome.{Outcome}
use Rattle.nms_verdicts.specs.declared.checking.Outcome.TheVariants as outcome
use Rattle.nms_verdicts.specs.declared.pieces.Piece.{Piece}
use Rattle.nms_verdicts.specs.declared.verdict.Verdict.{Verdict}
use Rattle.nms_verdicts.specs.declared.verdict.Verdict.TheVariants as verdict
use Rattle.csv.specs.Reading.{strip_bom}

-- the outcome of a verdict says what the audit finds
outcome_so : (settings : Settings) (tape : Tape) (plan : Plan) (cuts : List Cut) (judged : Verdict)
    → IsVerdict settings tape plan cuts judged → IsOutcomeOf settings tape plan cuts (outcome_of judged)
outcome_so settings tape plan cuts verdict.Confirmed is = is
outcome_so settings tape plan cuts (verdict.Beyond changes) is = inl is.0
outcome_so settings tape plan cuts (verdict.Doubted doubt place) is = inr (is.0, (doubt, is.1.0))

-- as above, for a value equal to that outcome
pub outcome_by : (settings : Settings) (tape : Tape) (plan : Plan) (cuts : List Cut) (judged : Verdict) (found : Outcome)
    → found ≡ outcome_of judged → IsVerdict settings tape plan cuts judged → IsOutcomeOf settings tape plan cuts found
outcome_by settings tape plan cuts judged found e is =
    subst (λ (it : Outcome). IsOutcomeOf settings tape plan cuts it) (sym e) (outcome_so settings tape plan cuts judged is)

-- the outcome of a plan is that of the text that says it
pub outcome_read : {E : Type 0} (settings : Settings) (tape : Tape) (text : List ℕ) (roster : Listing) (plan : Plan) (cuts : List Cut)
    (found : Result Outcome E) → roster ≡ settings.roster
    → ((records : List Record) → AreAllRecords (Some text) records → plan_in roster records ≡ Some (said_by plan cuts))
    → IfOk found (IsOutcomeOf settings tape plan cuts) → IfOk found (IsOutcome settings tape text)
outcome_read settings tape text roster plan cuts (Ok outcome.Confirmed) e read is = record {
  plan = plan;
  cuts = cuts;
  read = λ records all. subst (λ (it : Listing). plan_in it records ≡ Some (said_by plan cuts)) e (read records all);
  by = is;
}
outcome_read settings tape text roster plan cuts (Ok outcome.Doubted) e read is = record {
  plan = plan;
  cuts = cuts;
  read = λ records all. subst (λ (it : Listing). plan_in it records ≡ Some (said_by plan cuts)) e (read records all);
  by = is;
}
outcome_read settings tape text roster plan cuts (Ok outcome.Unreadable) e read is = absurd is
outcome_read settings tape text roster plan cuts (Err fault) e read is = tt

zip_more : {A B : Type 0} (R : A → B → Type 0) (xs : List A) (ys : List B) (x : A) (y : B) → AllZip R xs ys → R x y
    → AllZip R (xs ++ x ∷ []) (ys ++ y ∷ [])
zip_more R [] [] x y all one = (one, tt)
zip_more R [] (b ∷ ys) x y all one = absurd all
zip_more R (a ∷ xs) [] x y all one = absurd all
zip_more R (a ∷ xs) (b ∷ ys) x y all one = (all.0, zip_more R xs ys x y all.1 one)

one_kept : (test : Bool) (one : Outcome) → length (if test then one ∷ [] else []) ≡ 0 + (if test then 1 else 0)
one_kept true one = refl
one_kept false one = refl

kept_more : (test : Bool) (one : Outcome) (more before : List Outcome) (size : ℕ) → length more ≡ length before + size
    → length (if test then one ∷ more else more) ≡ length (if test then one ∷ before else before) + size
kept_more true one more before size e = omega (arith, e)
kept_more false one more before size e = e

filter_push : (test : Outcome → Bool) (outcomes : List Outcome) (one : Outcome)
    → length (filter test (outcomes ++ one ∷ [])) ≡ length (filter test outcomes) + (if test one then 1 else 0)
filter_push test [] one = one_kept (test one) one
filter_push test (first ∷ more) one =
    kept_more (test first) first (filter test (more ++ one ∷ [])) (filter test more) (if test one then 1 else 0)
    (filter_push test more one)

-- no text
pub counts_none : (settings : Settings) (tape : Tape) → AreCounts settings tape [] (record { confirmed = 0; doubted = 0; unreadable = 0 })
counts_none settings tape =
    record { outcomes = []; found = tt; confirmed = refl; doubted = refl; unreadable = refl; total = refl }

-- one text more
pub counts_more : (settings : Settings) (tape : Tape) (texts : List (List ℕ)) (text : List ℕ) (counts : Counts) (one : Outcome)
    → AreCounts settings tape texts counts → IsOutcome settings tape text one
    → AreCounts settings tape (texts ++ text ∷ []) (counted counts one)
counts_more settings tape texts text counts outcome.Confirmed had is = record {
  outcomes = had.outcomes ++ outcome.Confirmed ∷ [];
  found = zip_more (IsOutcome settings tape) texts had.outcomes text outcome.Confirmed had.found is;
  confirmed = omega (arith, had.confirmed, filter_push is_confirmed had.outcomes outcome.Confirmed);
  doubted = omega (arith, had.doubted, filter_push is_doubted had.outcomes outcome.Confirmed);
  unreadable = omega (arith, had.unreadable, filter_push is_unreadable had.outcomes outcome.Confirmed);
  total = omega (arith, had.total, length_push texts text);
}
counts_more settings tape texts text counts outcome.Doubted had is = record {
  outcomes = had.outcomes ++ outcome.Doubted ∷ [];
  found = zip_more (IsOutcome settings tape) texts had.outcomes text outcome.Doubted had.found is;
  confirmed = omega (arith, had.confirmed, filter_push is_confirmed had.outcomes outcome.Doubted);
  doubted = omega (arith, had.doubted, filter_push is_doubted had.outcomes outcome.Doubted);
  unreadable = omega (arith, had.unreadable, filter_push is_unreadable had.outcomes outcome.Doubted);
  total = omega (arith, had.total, length_push texts text);
}
counts_more settings tape texts text counts outcome.Unreadable had is = record {
  outcomes = had.outcomes ++ outcome.Unreadable ∷ [];
  found = zip_more (IsOutcome settings tape) texts had.outcomes text outcome.Unreadable had.found is;
  confirmed = omega (arith, had.confirmed, filter_push is_confirmed had.outcomes outcome.Unreadable);
  doubted = omega (arith, had.doubted, filter_push is_doubted had.outcomes outcome.Unreadable);
  unreadable = omega (arith, had.unreadable, filter_push is_unreadable had.outcomes outcome.Unreadable);
  total = omega (arith, had.total, length_push texts text);
}

any_here : {X : Type 0} (P : X → Type 0) (x : X) (xs : List X) → P x → Any P (x ∷ xs)
any_here P x xs is = (0, x, omega arith, refl, is)

any_there : {X : Type 0} (P : X → Type 0) (x : X) (xs : List X) → Any P xs → Any P (x ∷ xs)
any_there P x xs any = (suc any.0, any.1, omega (arith, any.2), any.3, any.4)

any_doubted : (settings : Settings) (tape : Tape) (texts : List (List ℕ)) (outcomes : List Outcome)
    → AllZip (IsOutcome settings tape) texts outcomes → 0 < length (filter is_doubted outcomes) → Any (IsDoubted settings tape) texts
any_doubted settings tape [] [] all some = absurd (omega (arith, some))
any_doubted settings tape [] (one ∷ outcomes) all some = absurd all
any_doubted settings tape (text ∷ texts) [] all some = absurd all
any_doubted settings tape (text ∷ texts) (outcome.Confirmed ∷ outcomes) all some =
    any_there (IsDoubted settings tape) text texts (any_doubted settings tape texts outcomes all.1 some)
any_doubted settings tape (text ∷ texts) (outcome.Doubted ∷ outcomes) all some =
    any_here (IsDoubted settings tape) text texts all.0
any_doubted settings tape (text ∷ texts) (outcome.Unreadable ∷ outcomes) all some =
    any_there (IsDoubted settings tape) text texts (any_doubted settings tape texts outcomes all.1 some)

any_unreadable : (settings : Settings) (tape : Tape) (texts : List (List ℕ)) (outcomes : List Outcome)
    → AllZip (IsOutcome settings tape) texts outcomes → 0 < length (filter is_unreadable outcomes) → Any (IsUnreadable settings) texts
any_unreadable settings tape [] [] all some = absurd (omega (arith, some))
any_unreadable settings tape [] (one ∷ outcomes) all some = absurd all
any_unreadable settings tape (text ∷ texts) [] all some = absurd all
any_unreadable settings tape (text ∷ texts) (outcome.Confirmed ∷ outcomes) all some =
    any_there (IsUnreadable settings) text texts (any_unreadable settings tape texts outcomes all.1 some)
any_unreadable settings tape (text ∷ texts) (outcome.Doubted ∷ outcomes) all some =
    any_there (IsUnreadable settings) text texts (any_unreadable settings tape texts outcomes all.1 some)
any_unreadable settings tape (text ∷ texts) (outcome.Unreadable ∷ outcomes) all some =
    any_here (IsUnreadable settings) text texts all.0

abbrev IsFound : Settings → Tape → List ℕ → Type 0
IsFound settings tape text = IsConfirmed settings tape text ⊎ (IsDoubted settings tape text ⊎ IsUnreadable settings text)

abbrev IsUndoubted : Settings → Tape → List ℕ → Type 0
IsUndoubted settings tape text = IsConfirmed settings tape text ⊎ IsUnreadable settings text

all_found : (settings : Settings) (tape : Tape) (texts : List (List ℕ)) (outcomes : List Outcome)
    → AllZip (IsOutcome settings tape) texts outcomes → AllByRecursion (IsFound settings tape) texts
all_found settings tape [] outcomes all = tt
all_found settings tape (text ∷ texts) [] all = absurd all
all_found settings tape (text ∷ texts) (outcome.Confirmed ∷ outcomes) all =
    (inl all.0, all_found settings tape texts outcomes all.1)
all_found settings tape (text ∷ texts) (outcome.Doubted ∷ outcomes) all =
    (inr (inl all.0), all_found settings tape texts outcomes all.1)
all_found settings tape (text ∷ texts) (outcome.Unreadable ∷ outcomes) all =
    (inr (inr all.0), all_found settings tape texts outcomes all.1)

all_undoubted : (settings : Settings) (tape : Tape) (texts : List (List ℕ)) (outcomes : List Outcome)
    → AllZip (IsOutcome settings tape) texts outcomes → length (filter is_doubted outcomes) ≤ 0
    → AllByRecursion (IsUndoubted settings tape) texts
all_undoubted settings tape [] outcomes all none = tt
all_undoubted settings tape (text ∷ texts) [] all none = absurd all
all_undoubted settings tape (text ∷ texts) (outcome.Confirmed ∷ outcomes) all none =
    (inl all.0, all_undoubted settings tape texts outcomes all.1 none)
all_undoubted settings tape (text ∷ texts) (outcome.Doubted ∷ outcomes) all none = absurd (omega (arith, none))
all_undoubted settings tape (text ∷ texts) (outcome.Unreadable ∷ outcomes) all none =
    (inr all.0, all_undoubted settings tape texts outcomes all.1 none)

all_confirmed : (settings : Settings) (tape : Tape) (texts : List (List ℕ)) (outcomes : List Outcome)
    → AllZip (IsOutcome settings tape) texts outcomes → length (filter is_doubted outcomes) ≤ 0
    → length (filter is_unreadable outcomes) ≤ 0 → AllByRecursion (IsConfirmed settings tape) texts
all_confirmed settings tape [] outcomes all none nothing = tt
all_confirmed settings tape (text ∷ texts) [] all none nothing = absurd all
all_confirmed settings tape (text ∷ texts) (outcome.Confirmed ∷ outcomes) all none nothing =
    (all.0, all_confirmed settings tape texts outcomes all.1 none nothing)
all_confirmed settings tape (text ∷ texts) (outcome.Doubted ∷ outcomes) all none nothing = absurd (omega (arith, none))
all_confirmed settings tape (text ∷ texts) (outcome.Unreadable ∷ outcomes) all none nothing = absurd (omega (arith, nothing))

ends_if : (settings : Settings) (tape : Tape) (texts : List (List ℕ)) (outcomes : List Outcome) (doubted unreadable : Bool)
    → AllZip (IsOutcome settings tape) texts outcomes
    → nat_lt 0 (length (filter is_doubted outcomes)) ≡ doubted → nat_lt 0 (length (filter is_unreadable outcomes)) ≡ unreadable
    → EndsByAll settings tape texts (if doubted then ending.Doubted else (if unreadable then ending.Refused else ending.Done))
ends_if settings tape texts outcomes true unreadable all some e = (
  any_doubted settings tape texts outcomes all (ltb-true 0 (length (filter is_doubted outcomes)) some),
  All-from_recursion (IsFound settings tape) texts (all_found settings tape texts outcomes all),
)
ends_if settings tape texts outcomes false true all none some = (
  any_unreadable settings tape texts outcomes all (ltb-true 0 (length (filter is_unreadable outcomes)) some),
  All-from_recursion (IsUndoubted settings tape) texts
      (all_undoubted settings tape texts outcomes all (ltb-false 0 (length (filter is_doubted outcomes)) none)),
)
ends_if settings tape texts outcomes false false all none nothing =
    All-from_recursion (IsConfirmed settings tape) texts
    (all_confirmed settings tape texts outcomes all (ltb-false 0 (length (filter is_doubted outcomes)) none)
    (ltb-false 0 (length (filter is_unreadable outcomes)) nothing))

-- the ending by counts is that of the texts
pub ends_all : (settings : Settings) (tape : Tape) (texts : List (List ℕ)) (counts : Counts) (ended : Ending)
    → AreCounts settings tape texts counts → ended ≡ ending_by counts → EndsByAll settings tape texts ended
ends_all settings tape texts counts ended had e =
    subst (λ (it : Ending). EndsByAll settings tape texts it) (sym e)
    (rw (had.doubted, had.unreadable) (ends_if settings tape texts had.outcomes (nat_lt 0 (length (filter is_doubted had.outcomes)))
    (nat_lt 0 (length (filter is_unreadable had.outcomes))) had.found refl refl))

any_permuted : {X : Type 0} (P : X → Type 0) (xs ys : List X) → IsPermutation xs ys → Any P xs → Any P ys
any_permuted P xs ys same any =
    let there = Contains-permutation xs ys any.1 same (any.0, any.2, any.3) in
    (there.0, any.1, there.1, there.2, any.4)

permuted : (settings : Settings) (tape : Tape) (texts sorted : List (List ℕ)) (ended : Ending) → IsPermutation sorted texts
    → EndsByAll settings tape sorted ended → EndsByAll settings tape texts ended
permuted settings tape texts sorted ending.Done same all = All-permutation (IsConfirmed settings tape) sorted texts same all
permuted settings tape texts sorted ending.Doubted same all = (
  any_permuted (IsDoubted settings tape) sorted texts same all.0,
  All-permutation (IsFound settings tape) sorted texts same all.1,
)
permuted settings tape texts sorted ending.Refused same all = (
  any_permuted (IsUnreadable settings) sorted texts same all.0,
  All-permutation (IsUndoubted settings tape) sorted texts same all.1,
)
permuted settings tape texts sorted ending.SetupRefused same all = absurd all

-- texts in another order end a request alike
pub ends_alike : {E : Type 0} (settings : Settings) (tape : Tape) (text : List ℕ) (sorted listed : List (List ℕ)) (ended : Result Ending E)
    → listed ≡ sorted → (texts : List (List ℕ)) × ArePieces text texts × IsPermutation texts sorted
    → IfOk ended (EndsByAll settings tape listed)
    → IfOk ended (λ it. (texts : List (List ℕ)) × ArePieces text texts × EndsByAll settings tape texts it)
ends_alike settings tape text sorted listed (Ok it) e made by =
    let same : EndsByAll settings tape sorted it = subst (λ (list : List (List ℕ)). EndsByAll settings tape list it) e by in
    (made.0, made.1, permuted settings tape made.0 sorted it (IsPermutation-sym made.0 sorted made.2) same)
ends_alike settings tape text sorted listed (Err fault) e made by = tt

-- on the changes of a file
pub checked_on : {E : Type 0} (settings own : Settings) (bytes : Option (List ℕ)) (tape : Tape) (text : List ℕ) (ended : Result Ending E)
    → own ≡ settings → IsFileTape settings bytes tape
    → IfOk ended (λ it. (texts : List (List ℕ)) × ArePieces (strip_bom text) texts × EndsByAll own tape texts it)
    → IfOk ended (IsChecked settings bytes text)
checked_on settings own bytes tape text (Ok it) e changes by =
    let same : EndsByAll settings tape by.0 it = subst (λ (one : Settings). EndsByAll one tape by.0 it) e by.2 in
    record { tape = tape; changes = changes; pieces = by.0; parted = by.1; by = same }
checked_on settings own bytes tape text (Err fault) e changes by = tt

-- the counts after one piece more
pub counts_next : (settings : Settings) (tape : Tape) (pieces : List Piece) (i : ℕ) (d : Piece) (counts after : Counts) (one : Outcome)
    → AreCounts settings tape (texts_of (take i pieces)) counts → i < length pieces
    → IsOutcome settings tape (get_or pieces i d).text.now one → after ≡ counted counts one
    → AreCounts settings tape (texts_of (take (i + 1) pieces)) after
counts_next settings tape pieces i d counts after one had below found e =
    let text = (get_or pieces i d).text.now in
    let more : texts_of (take (i + 1) pieces) ≡ texts_of (take i pieces) ++ text ∷ [] =
    ap (λ (list : List Piece). texts_of list) (take_more pieces i d below)
    ∙ map-append (λ (it : Piece). it.text.now) (take i pieces) (get_or pieces i d ∷ []) in
    subst (λ (list : List (List ℕ)). AreCounts settings tape list after) (sym more)
    (subst (λ (it : Counts). AreCounts settings tape (texts_of (take i pieces) ++ text ∷ []) it) (sym e)
    (counts_more settings tape (texts_of (take i pieces)) text counts one had found))

-- after the last piece
pub counts_all : (settings : Settings) (tape : Tape) (pieces : List Piece) (i : ℕ) (counts : Counts)
    → AreCounts settings tape (texts_of (take i pieces)) counts → length pieces ≤ i → AreCounts settings tape (texts_of pieces) counts
counts_all settings tape pieces i counts had over =
    subst (λ (list : List Piece). AreCounts settings tape (texts_of list) counts) (take_all i pieces over) had
