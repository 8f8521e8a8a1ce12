-- Many calls in one: how far they come, and what is written.
use Rattle.std.proofs.Common.{◌≡◌, ◌∙◌, ◌<◌, ◌≤◌, ◌+◌, ℕ, zero, suc, None, Option, Some, fold, take, get_or, length, refl, Bool, List, [], ◌∷◌}
use Rattle.std.proofs.Common.{◌++◌, ap, ap₂, arith, if◌then◌else◌, slice_set, subst, sym}
use Rattle.std.proofs.lemmas.Bool.{le-ltb}
use Rattle.std.proofs.lemmas.List.{take_more, take_more_set}
use Rattle.std.proofs.lemmas.List.Folds.{fold_stuck}
use Rattle.std.proofs.lemmas.List.Sums.{fold_more}
use Rattle.nms_fees.specs.Settings.{Settings}
use Rattle.nms_calls.specs.Batches.{AreAnswers, AreFollowed, all_called, all_followed, called, followed, followed_fault}
use Rattle.nms_calls.specs.Batches.{nothing, one_more, room_first}
use Rattle.nms_calls.specs.Opened.{IsApplied, Opened, Progress, from_start, tried, version}
use Rattle.nms_calls.specs.RowNumbers.{AreBest}
use Rattle.nms_calls.specs.declared.call_fault.CallFault.{CallFault}
use Rattle.nms_calls.specs.declared.call_fault.CallFault.TheVariants as fault
use Rattle.nms_calls.specs.declared.change_numbers.NmsChange.{NmsChange}
use Rattle.nms_calls.specs.declared.row_numbers.NmsBest.{NmsBest}

-- one more is answered
pub answered-one_more : {X : Type 0} (why : X → Option CallFault) (items : List X) (i n : ℕ) (d : X) → i < length items
    → record { applied = n; fault = None } ≡ fold (called why) from_start (take i items) → why (get_or items i d) ≡ None
    → record { applied = n + 1; fault = None } ≡ fold (called why) from_start (take (i + 1) items)
answered-one_more why items i n d within reached fine =
    sym (fold_more (called why) from_start items i d within ∙ ap (λ (p : Progress). called why p (get_or items i d)) (sym reached)
    ∙ ap (tried n) fine)

-- after a refusal no other call is made
pub refused-at : {X : Type 0} (why : X → Option CallFault) (items : List X) (i n : ℕ) (d : X) (found : CallFault) → i < length items
    → record { applied = n; fault = None } ≡ fold (called why) from_start (take i items) → why (get_or items i d) ≡ Some found
    → record { applied = n; fault = Some found } ≡ all_called why items
refused-at why items i n d found within reached refused =
    let stopped : Progress = record { applied = n; fault = Some found } in
    let step : called why (fold (called why) from_start (take i items)) (get_or items i d) ≡ stopped =
    ap (λ (p : Progress). called why p (get_or items i d)) (sym reached) ∙ ap (tried n) refused in
    fold_stuck (called why) stopped (λ x. refl) from_start items i d within step

-- if there is a place for each answer
pub with_room : {X Y : Type 0} (items : List X) (places : List Y) (p : Progress) → length items ≤ length places
    → p ≡ room_first items places p
with_room items places p room =
    sym (ap (λ (b : Bool). if b then record { applied = 0; fault = Some fault.NoRoom } else p) (le-ltb (length places) (length items) room))

-- the next place is written
pub written-one_more : {X Y : Type 0} (answers : X → Y → Type 0) (items : List X) (places : List Y) (n : ℕ) (d : X) (y : Y)
    → n < length items → n < length places → AreAnswers answers items places n → answers (get_or items n d) y
    → AreAnswers answers items (slice_set places n y) (n + 1)
written-one_more answers [] places n d y within there before is place below = absurd (omega arith)
written-one_more answers (x ∷ xs) [] n d y within there before is place below = absurd (omega arith)
written-one_more answers (x ∷ xs) (z ∷ zs) zero d y within there before is zero below = is
written-one_more answers (x ∷ xs) (z ∷ zs) zero d y within there before is (suc i) below = absurd (omega arith)
written-one_more answers (x ∷ xs) (z ∷ zs) (suc n) d y within there before is zero below = before 0 (omega arith)
written-one_more answers (x ∷ xs) (z ∷ zs) (suc n) d y within there before is (suc i) below =
    written-one_more answers xs zs n d y (omega arith) (omega arith) (λ j h. before (suc j) (omega arith)) is i (omega arith)

-- ---- the best after each change

-- why a change is refused after some that were applied is why the board refuses it then
pub followed_is : (opened now : Opened) (applied : ℕ) (n : NmsChange) → now.settings ≡ opened.settings
    → version now ≡ version opened + applied
    → followed_fault opened.settings (version opened + applied) n ≡ followed_fault now.settings (version now) n
followed_is opened now applied n settings counted =
    sym (ap₂ (λ (s : Settings) (v : ℕ). followed_fault s v n) settings counted)

-- after a refusal no other change is applied
pub stopped_following : (opened : Opened) (changes : List NmsChange) (i applied : ℕ) (d : NmsChange) (found : CallFault) → i < length changes
    → record { applied = applied; fault = None } ≡ fold (followed opened) from_start (take i changes)
    → followed_fault opened.settings (version opened + applied) (get_or changes i d) ≡ Some found
    → record { applied = applied; fault = Some found } ≡ all_followed opened changes
stopped_following opened changes i applied d found within reached refused =
    let stopped : Progress = record { applied = applied; fault = Some found } in
    let step : followed opened (fold (followed opened) from_start (take i changes)) (get_or changes i d) ≡ stopped =
    ap (λ (p : Progress). followed opened p (get_or changes i d)) (sym reached) ∙ ap (tried applied) refused in
    fold_stuck (followed opened) stopped (λ x. refl) from_start changes i d within step

-- one that is applied is counted
pub followed_on : (opened : Opened) (changes : List NmsChange) (i applied : ℕ) (d : NmsChange) → i < length changes
    → record { applied = applied; fault = None } ≡ fold (followed opened) from_start (take i changes)
    → followed_fault opened.settings (version opened + applied) (get_or changes i d) ≡ None
    → record { applied = applied + 1; fault = None } ≡ fold (followed opened) from_start (take (i + 1) changes)
followed_on opened changes i applied d within reached accepted =
    sym (fold_more (followed opened) from_start changes i d within ∙ ap (λ (p : Progress). followed opened p (get_or changes i d)) (sym reached)
    ∙ ap (tried applied) accepted)

-- and what is left then
pub followed_more : (start old new : Opened) (changes : List NmsChange) (places : List NmsBest) (i : ℕ) (d : NmsChange) (best : NmsBest)
    → i < length changes → i < length places → AreFollowed start (take i changes) (take i places) old
    → IsApplied (get_or changes i d) old new → AreBest new ((get_or changes i d).sym) best
    → AreFollowed start (take (i + 1) changes) (take (i + 1) (slice_set places i best)) new
followed_more start old new changes places i d best within there before is shown =
    subst (λ (ns : List NmsChange). AreFollowed start ns (take (i + 1) (slice_set places i best)) new) (sym (take_more changes i d within))
    (subst (λ (bs : List NmsBest). AreFollowed start (take i changes ++ get_or changes i d ∷ []) bs new) (sym (take_more_set places i best there))
    (one_more (take i changes) (take i places) (get_or changes i d) best old new before is shown))

-- nothing is left of what no place was for
pub followed_none : (start : Opened) (changes : List NmsChange) (places : List NmsBest) → AreFollowed start (take 0 changes) (take 0 places) start
followed_none start changes places = nothing
