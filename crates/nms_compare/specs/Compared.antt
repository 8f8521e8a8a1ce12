-- The findings on the rows of a vendor's file, and how often each came. This product's own rule.
use Rattle.std.specs.Prelude.{ℕ, ◌+◌, Bool, true, false, List, fold, map, nat_lt, Result, Ok, Err}
use Rattle.nms_quote.specs.Roster.{Listing, sizes_of}
use Rattle.nms_quote.specs.Tape.{Tape, version}
use Rattle.nms_lines.specs.Layout.{Record}
use Rattle.nms_import.specs.Mapping.{◌>>=◌}
use Rattle.nms_import.specs.declared.cause.Cause.{Cause}
use Rattle.nms_import.specs.declared.cause.Cause.TheVariants as cause
use Rattle.nms_import.specs.declared.mapping.Order.{Order}
use Rattle.nms_stream.specs.Quoted.{quoted_at}
use Rattle.nms_compare.specs.Finding.{finding_of}
use Rattle.nms_compare.specs.National.{national_of}
use Rattle.nms_compare.specs.Standing.{key_in, version_by}
use Rattle.nms_compare.specs.declared.comparing.Vendor.{Vendor}
use Rattle.nms_compare.specs.declared.counts.Counts.{Counts}
use Rattle.nms_compare.specs.declared.finding.Finding.{Finding}
use Rattle.nms_compare.specs.declared.finding.Finding.TheVariants as finding
use Rattle.nms_compare.specs.declared.national.National.{National}

-- the version at a national best
abbrev pub version_at : Order → List ℕ → National → ℕ
version_at order keys theirs = version_by keys (key_in order theirs.sym theirs.time)

-- the finding on a national best, on the version at its time
abbrev pub finding_at : Vendor → Listing → Tape → List ℕ → National → Finding
finding_at vendor roster tape keys theirs =
    finding_of (quoted_at (sizes_of roster) (version (version_at vendor.order keys theirs) tape) theirs.sym) theirs

-- a row: the finding on its national best, or why it has none
abbrev pub found_of : Vendor → Listing → Tape → List ℕ → Record → Result Finding Cause
found_of vendor roster tape keys row = do
  theirs ← national_of vendor.bids vendor.offers vendor.meanings.now roster row
  Ok (finding_at vendor roster tape keys theirs)

-- the causes that skip a row; the others refuse it
abbrev pub skips : Cause → Bool
skips cause.TooFewColumns = false
skips cause.BadTime = false
skips cause.UnknownParticipant = false
skips cause.UnknownSymbol = false
skips cause.UnknownCondition = false
skips (cause.OneSided side) = false
skips (cause.BadPrice side) = false
skips (cause.BadSize side) = false
skips cause.UnknownSide = false
skips (cause.HalfSide side) = false
skips cause.Trailer = true
skips cause.Listed = true
skips cause.OtherSymbol = true

-- no row
abbrev pub no_counts : Counts
no_counts = record {
  equal = 0;
  other_price = 0;
  other_size = 0;
  other_venue = 0;
  no_counterpart = 0;
  refused = 0;
  skipped = 0;
}

-- one finding more
abbrev pub count_finding : Counts → Finding → Counts
count_finding counts finding.Equal = record counts { equal = counts.equal + 1 }
count_finding counts finding.OtherPrice = record counts { other_price = counts.other_price + 1 }
count_finding counts finding.OtherSize = record counts { other_size = counts.other_size + 1 }
count_finding counts finding.OtherVenue = record counts { other_venue = counts.other_venue + 1 }
count_finding counts finding.NoCounterpart = record counts { no_counterpart = counts.no_counterpart + 1 }

-- one more row that has no national best
abbrev pub count_cause : Counts → Bool → Counts
count_cause counts true = record counts { skipped = counts.skipped + 1 }
count_cause counts false = record counts { refused = counts.refused + 1 }

-- one row more
abbrev pub count_row : Counts → Result Finding Cause → Counts
count_row counts (Ok finding) = count_finding counts finding
count_row counts (Err why) = count_cause counts (skips why)

-- all rows
abbrev pub rows_in : Counts → ℕ
rows_in counts =
    counts.equal + counts.other_price + counts.other_size + counts.other_venue + counts.no_counterpart + counts.refused + counts.skipped

-- some row is neither equal nor skipped
abbrev pub has_doubts : Counts → Bool
has_doubts counts = nat_lt (counts.equal + counts.skipped) (rows_in counts)

-- the counts of the rows of a file: each row counts once, by its finding
abbrev pub counts_of : Vendor → Listing → Tape → List ℕ → List Record → Counts
counts_of vendor roster tape keys rows = fold count_row no_counts (map (found_of vendor roster tape keys) rows)
