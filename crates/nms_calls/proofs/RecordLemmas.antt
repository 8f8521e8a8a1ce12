-- Records applied one after another: how far a call comes, and what is left.
use Rattle.std.proofs.Common.{◌≡◌, ◌∙◌, ◌+◌, ◌<◌, ◌≤◌, ℕ, None, Some, [], ap, ap₂, fold, get_or, length, List, refl, subst, sym, take}
use Rattle.std.proofs.lemmas.List.{take_all, take_more}
use Rattle.std.proofs.lemmas.List.Folds.{fold_stuck}
use Rattle.std.proofs.lemmas.List.Sums.{fold_more}
use Rattle.nms_fees.specs.Settings.{Settings}
use Rattle.nms_calls.specs.Opened.{HasApplied, Opened, Progress, from_start, room_fault, tried, version}
use Rattle.nms_calls.specs.RecordSaid.{record_fault, record_said}
use Rattle.nms_calls.specs.TextLines.{AreAppliedRecords, IsAppliedRecord, all_records, later_record_fault, one_more, record_next}
use Rattle.nms_calls.specs.declared.call_fault.CallFault.{CallFault}
use Rattle.nms_calls.proofs.OpenedLemmas.{one_said}

-- a record that is applied leaves the settings, and the version is one more
pub settings_kept : (text : List ℕ) (old new : Opened) → IsAppliedRecord text old new → new.settings ≡ old.settings
settings_kept text old new is =
    (one_said (version old) (record_said old.settings.roster text) (HasApplied old new) is.accepted is.applied).1.settings

pub version_counted : (text : List ℕ) (old new : Opened) → IsAppliedRecord text old new → version new ≡ version old + 1
version_counted text old new is =
    (one_said (version old) (record_said old.settings.roster text) (HasApplied old new) is.accepted is.applied).1.taken.counted

-- why a record is refused after some that were applied is why the board refuses it then
pub later_is : (opened now : Opened) (applied : ℕ) (text : List ℕ) → now.settings ≡ opened.settings
    → version now ≡ version opened + applied → later_record_fault opened applied text ≡ record_fault now text
later_is opened now applied text settings counted =
    sym (ap₂ (λ (s : Settings) (v : ℕ). room_fault v (record_said s.roster text)) settings counted)

-- after a refusal the other records alter nothing
pub stopped_at : (opened : Opened) (records : List (List ℕ)) (n : ℕ) (found : CallFault) → n < length records
    → record { applied = n; fault = None } ≡ fold (record_next opened) from_start (take n records)
    → later_record_fault opened n (get_or records n []) ≡ Some found
    → record { applied = n; fault = Some found } ≡ all_records opened records
stopped_at opened records n found within reached refused =
    let text : List ℕ = get_or records n [] in
    let stopped : Progress = record { applied = n; fault = Some found } in
    let step : record_next opened (fold (record_next opened) from_start (take n records)) text ≡ stopped =
    ap (λ (p : Progress). record_next opened p text) (sym reached) ∙ ap (tried n) refused in
    fold_stuck (record_next opened) stopped (λ x. refl) from_start records n [] within step

-- if there are no more, that is how far the call comes
pub all_done : (opened : Opened) (records : List (List ℕ)) (n : ℕ) → length records ≤ n
    → record { applied = n; fault = None } ≡ fold (record_next opened) from_start (take n records)
    → record { applied = n; fault = None } ≡ all_records opened records
all_done opened records n done reached =
    reached ∙ ap (λ (texts : List (List ℕ)). fold (record_next opened) from_start texts) (take_all n records done)

-- one that is applied is counted
pub went_on : (opened : Opened) (records : List (List ℕ)) (n : ℕ) → n < length records
    → record { applied = n; fault = None } ≡ fold (record_next opened) from_start (take n records)
    → later_record_fault opened n (get_or records n []) ≡ None
    → record { applied = n + 1; fault = None } ≡ fold (record_next opened) from_start (take (n + 1) records)
went_on opened records n within reached accepted =
    let text : List ℕ = get_or records n [] in
    let went : Progress = record { applied = n + 1; fault = None } in
    let step : record_next opened (fold (record_next opened) from_start (take n records)) text ≡ went =
    ap (λ (p : Progress). record_next opened p text) (sym reached) ∙ ap (tried n) accepted in
    sym (fold_more (record_next opened) from_start records n [] within ∙ step)

-- and what is left then
pub applied_more : (start old new : Opened) (records : List (List ℕ)) (n : ℕ) → n < length records
    → AreAppliedRecords start (take n records) old → IsAppliedRecord (get_or records n []) old new
    → AreAppliedRecords start (take (n + 1) records) new
applied_more start old new records n within before is =
    subst (λ (texts : List (List ℕ)). AreAppliedRecords start texts new) (sym (take_more records n [] within))
    (one_more (take n records) (get_or records n []) old new before is)
