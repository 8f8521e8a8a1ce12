-- How many rows of a comparison had each finding, by symbol and by hour. This product's own rule.
use Rattle.std.specs.Prelude.{ℕ, ◌≡◌, ◌+◌, ◌/◌, ◌==◌, Bool, List, [], ◌∷◌, filter, flat_map, fold, map, replicate}
use Rattle.std.specs.Prelude.{option_map, unwrap_or, Result, Ok, Err, slice_get, slice_set}
use Rattle.nms_quote.specs.Roster.{Listing}
use Rattle.nms_quote.specs.Tape.{Tape}
use Rattle.nms_lines.specs.Layout.{Record}
use Rattle.nms_import.specs.declared.cause.Cause.{Cause}
use Rattle.nms_compare.specs.Compared.{finding_at}
use Rattle.nms_compare.specs.National.{national_of}
use Rattle.nms_compare.specs.declared.comparing.Vendor.{Vendor}
use Rattle.nms_compare.specs.declared.finding.Finding.{Finding}
use Rattle.nms_compare.specs.declared.finding.Finding.TheVariants as finding
use Rattle.nms_compare.specs.declared.national.National.{National}
use Rattle.nms_compare.specs.declared.sums.Found.{Found}
use Rattle.nms_compare.specs.declared.sums.TheConstants.{HOUR, HOURS}

-- a row that has a national best: its symbol, its time of day, and its finding
pub record Judged : Type 0 where
  pub sym : ℕ
  pub time : ℕ
  pub finding : Finding

-- the row, if it has a national best
abbrev pub judged_as : Vendor → Listing → Tape → List ℕ → Result National Cause → List Judged
judged_as vendor roster tape keys (Err why) = []
judged_as vendor roster tape keys (Ok theirs) =
    record { sym = theirs.sym; time = theirs.time; finding = finding_at vendor roster tape keys theirs } ∷ []

abbrev pub judged_of : Vendor → Listing → Tape → List ℕ → Record → List Judged
judged_of vendor roster tape keys row =
    judged_as vendor roster tape keys (national_of vendor.bids vendor.offers vendor.meanings.now roster row)

-- the rows of a file that have a national best
abbrev pub judged_in : Vendor → Listing → Tape → List ℕ → List Record → List Judged
judged_in vendor roster tape keys rows = flat_map (judged_of vendor roster tape keys) rows

-- the counts of no row
abbrev pub no_rows : Found
no_rows = record { equal = 0; other_price = 0; other_size = 0; other_venue = 0; no_counterpart = 0 }

-- the counts with one row more
abbrev pub with_one : Found → Finding → Found
with_one found finding.Equal = record found { equal = found.equal + 1 }
with_one found finding.OtherPrice = record found { other_price = found.other_price + 1 }
with_one found finding.OtherSize = record found { other_size = found.other_size + 1 }
with_one found finding.OtherVenue = record found { other_venue = found.other_venue + 1 }
with_one found finding.NoCounterpart = record found { no_counterpart = found.no_counterpart + 1 }

-- the counts with some rows more
abbrev pub with_all : Found → List Finding → Found
with_all found findings = fold with_one found findings

-- the counts of each symbol, by its place on the roster, and of each hour
pub record Summed : Type 0 where
  pub symbols : List Found
  pub hours : List Found

-- those of no row
abbrev pub no_sums : (symbols : ℕ) → Summed
no_sums symbols = record { symbols = replicate symbols no_rows; hours = replicate HOURS no_rows }

-- a row of a symbol; a row of an hour
abbrev pub is_of_symbol : (sym : ℕ) → Judged → Bool
is_of_symbol sym it = it.sym == sym

abbrev pub is_of_hour : (hour : ℕ) → Judged → Bool
is_of_hour hour it = it.time / HOUR == hour

-- the findings on the rows that are of something
abbrev pub findings_of : (Judged → Bool) → List Judged → List Finding
findings_of is_of judged = map (λ it. it.finding) (filter is_of judged)

-- each symbol that has counts counts its own rows by their findings, after those that were counted before, and so does each hour
pub record AreCounted (before after : Summed) (judged : List Judged) : Type 0 where
  pub symbols : (sym : ℕ) → slice_get after.symbols sym
      ≡ option_map (λ found. with_all found (findings_of (is_of_symbol sym) judged)) (slice_get before.symbols sym)
  pub hours : (hour : ℕ) → slice_get after.hours hour
      ≡ option_map (λ found. with_all found (findings_of (is_of_hour hour) judged)) (slice_get before.hours hour)

-- one row more at a place, if it has counts
abbrev pub with_row : List Found → (place : ℕ) → Finding → List Found
with_row all place finding = slice_set all place (with_one (unwrap_or (slice_get all place) no_rows) finding)

-- the sums with one row more, and with some
abbrev pub with_judged : Summed → Judged → Summed
with_judged sums it = record {
  symbols = with_row sums.symbols it.sym it.finding;
  hours = with_row sums.hours (it.time / HOUR) it.finding;
}

abbrev pub summed : Summed → List Judged → Summed
summed sums judged = fold with_judged sums judged
