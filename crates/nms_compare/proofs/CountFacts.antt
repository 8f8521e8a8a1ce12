-- The counts of the rows so far and of one more.
use Rattle.std.proofs.Common.{ℕ, ◌≡◌, List, [], ◌∷◌, ◌++◌, map, sym, ap, ◌∙◌}
use Rattle.std.specs.Prelude.{Result, fold}
use Rattle.std.proofs.lemmas.List.{map-append}
use Rattle.std.proofs.lemmas.List.Sums.{fold-append}
use Rattle.nms_quote.specs.Roster.{Listing}
use Rattle.nms_quote.specs.Tape.{Tape}
use Rattle.nms_lines.specs.Layout.{Record}
use Rattle.nms_import.specs.declared.cause.Cause.{Cause}
use Rattle.nms_compare.specs.Compared.{count_row, counts_of, found_of, no_counts}
use Rattle.nms_compare.specs.declared.comparing.Vendor.{Vendor}
use Rattle.nms_compare.specs.declared.counts.Counts.{Counts}
use Rattle.nms_compare.specs.declared.finding.Finding.{Finding}

-- one row more
counts_one : (vendor : Vendor) (roster : Listing) (tape : Tape) (keys : List ℕ) (rows : List Record) (row : Record)
    → counts_of vendor roster tape keys (rows ++ row ∷ [])
    ≡ count_row (counts_of vendor roster tape keys rows) (found_of vendor roster tape keys row)
counts_one vendor roster tape keys rows row =
    ap (fold count_row no_counts) (map-append (found_of vendor roster tape keys) rows (row ∷ []))
    ∙ fold-append count_row no_counts (map (found_of vendor roster tape keys) rows) (map (found_of vendor roster tape keys) (row ∷ []))

-- counted by its finding
pub counts_more : (vendor : Vendor) (roster : Listing) (tape : Tape) (keys : List ℕ) (rows : List Record) (row : Record)
    (before : Counts) (found : Result Finding Cause) (after : Counts)
    → before ≡ counts_of vendor roster tape keys rows → found ≡ found_of vendor roster tape keys row → after ≡ count_row before found
    → after ≡ counts_of vendor roster tape keys (rows ++ row ∷ [])
counts_more vendor roster tape keys rows row before found after was is counted =
    counted ∙ ap (λ counts. count_row counts found) was ∙ ap (count_row (counts_of vendor roster tape keys rows)) is
    ∙ sym (counts_one vendor roster tape keys rows row)
