-- The sums after rows, one row after another: each place counts its own.
use Rattle.std.proofs.Common.{ℕ, ◌≡◌, ◌∙◌, ◌/◌, ◌∷◌, [], Bool, true, false, List, Option, Some, None, eqb, refl, sym, ap, suc, zero}
use Rattle.std.proofs.Common.{◌++◌, slice_get, slice_set, option_map, unwrap_or}
use Rattle.std.proofs.lemmas.Bool.{eqb-false, eqb-true}
use Rattle.std.proofs.lemmas.Grind.{flat_map-append}
use Rattle.std.proofs.lemmas.List.{append-nil}
use Rattle.std.proofs.lemmas.List.Sums.{fold-append}
use Rattle.nms_quote.specs.Roster.{Listing}
use Rattle.nms_quote.specs.Tape.{Tape}
use Rattle.nms_lines.specs.Layout.{Record}
use Rattle.nms_board.proofs.Offered.{slice_get-set_other}
use Rattle.nms_compare.specs.Summed.{AreCounted, Judged, Summed, findings_of, is_of_hour, is_of_symbol, judged_in, judged_of, no_rows}
use Rattle.nms_compare.specs.Summed.{summed, with_all, with_judged, with_one, with_row}
use Rattle.nms_compare.specs.declared.comparing.Vendor.{Vendor}
use Rattle.nms_compare.specs.declared.finding.Finding.{Finding}
use Rattle.nms_compare.specs.declared.sums.Found.{Found}
use Rattle.nms_compare.specs.declared.sums.TheConstants.{HOUR}

-- what is set at a place is there, if the place is
set_own : {X : Type 0} (xs : List X) (i : ℕ) (y : X) → slice_get (slice_set xs i y) i ≡ option_map (λ x. y) (slice_get xs i)
set_own [] i y = refl
set_own (z ∷ xs) zero y = refl
set_own (z ∷ xs) (suc i) y = set_own xs i y

one_at : (was : Option Found) (finding : Finding)
    → option_map (λ found. with_one (unwrap_or was no_rows) finding) was ≡ option_map (λ found. with_one found finding) was
one_at None finding = refl
one_at (Some found) finding = refl

-- one row more at its own place
own_more : (all : List Found) (place : ℕ) (finding : Finding)
    → slice_get (with_row all place finding) place ≡ option_map (λ found. with_one found finding) (slice_get all place)
own_more all place finding =
    set_own all place (with_one (unwrap_or (slice_get all place) no_rows) finding) ∙ one_at (slice_get all place) finding

-- then some rows more
rows_after : (was : Option Found) (finding : Finding) (more : List Finding)
    → option_map (λ found. with_all found more) (option_map (λ found. with_one found finding) was)
    ≡ option_map (λ found. with_all found (finding ∷ more)) was
rows_after None finding more = refl
rows_after (Some found) finding more = refl

-- a row and then some more, at a place
place_more : (all : List Found) (own place : ℕ) (is_of : Judged → Bool) (it : Judged) (more : List Judged) (is_own : Bool)
    → eqb own place ≡ is_own → is_of it ≡ is_own
    → option_map (λ found. with_all found (findings_of is_of more)) (slice_get (with_row all own it.finding) place)
    ≡ option_map (λ found. with_all found (findings_of is_of (it ∷ more))) (slice_get all place)
place_more all own place is_of it more true own_is of_is =
    let here : own ≡ place = eqb-true own place own_is in
    rw (of_is, here, own_more all place it.finding) (rows_after (slice_get all place) it.finding (findings_of is_of more))
place_more all own place is_of it more false own_is of_is =
    rw (of_is, slice_get-set_other all own place (with_one (unwrap_or (slice_get all own) no_rows) it.finding) (eqb-false own place own_is)) refl

no_more : (was : Option Found) → was ≡ option_map (λ found. with_all found []) was
no_more None = refl
no_more (Some found) = refl

-- each symbol and each hour counts its own rows
pub all_counted : (sums : Summed) (judged : List Judged) → AreCounted sums (summed sums judged) judged
all_counted sums [] =
    record { symbols = λ place. no_more (slice_get sums.symbols place); hours = λ hour. no_more (slice_get sums.hours hour) }
all_counted sums (it ∷ more) =
    let rest = all_counted (with_judged sums it) more in
    record {
      symbols = λ place. rest.symbols place
          ∙ place_more sums.symbols it.sym place (is_of_symbol place) it more (eqb it.sym place) refl refl;
      hours = λ hour. rest.hours hour
          ∙ place_more sums.hours (it.time / HOUR) hour (is_of_hour hour) it more (eqb (it.time / HOUR) hour) refl refl;
    }

-- the sums of the rows so far and of one more
pub sums_more : (vendor : Vendor) (roster : Listing) (tape : Tape) (keys : List ℕ) (rows : List Record) (row : Record)
    (first before after : Summed)
    → before ≡ summed first (judged_in vendor roster tape keys rows) → after ≡ summed before (judged_of vendor roster tape keys row)
    → after ≡ summed first (judged_in vendor roster tape keys (rows ++ row ∷ []))
sums_more vendor roster tape keys rows row first before after was is =
    let had = judged_in vendor roster tape keys rows in
    let one = judged_of vendor roster tape keys row in
    let split : judged_in vendor roster tape keys (rows ++ row ∷ []) ≡ had ++ one =
    flat_map-append (judged_of vendor roster tape keys) rows (row ∷ []) ∙ ap (λ (more : List Judged). had ++ more) (append-nil one) in
    is ∙ ap (λ (sums : Summed). summed sums one) was ∙ sym (fold-append with_judged first had one) ∙ sym (ap (summed first) split)
