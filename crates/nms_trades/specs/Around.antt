-- What is found over several versions: those of a window, or those of one second. This product's own rule.
use Rattle.std.specs.Prelude.{ℕ, ◌+◌, ◌-◌, Bool, true, false, ◌||◌, ◌&&◌, List, length, nat_lt, not, Option, Some, None}
use Rattle.std.specs.List.{list_any, range_with_len}
use Rattle.nms_quote.specs.Roster.{Sizes}
use Rattle.nms_quote.specs.Tape.{Tape, version}
use Rattle.nms_quote.specs.declared.side_quote.Side.{Side}
use Rattle.nms_quote.specs.declared.side_quote.Side.TheVariants.{Bid, Offer}
use Rattle.nms_board.specs.Quotation.{quotation_of}
use Rattle.nms_board.specs.View.{Seen, view_of}
use Rattle.nms_board.specs.declared.row.Row.{Row}
use Rattle.nms_rules.specs.Through.{is_through}
use Rattle.nms_trades.specs.Judged.{whole_price}
use Rattle.nms_trades.specs.declared.standing.Standing.{Standing}
use Rattle.nms_trades.specs.declared.standing.Standing.TheVariants as standing

-- whether a test holds of some version from one to another
abbrev pub any_version : (ℕ → Bool) → (first last : ℕ) → Bool
any_version test first last = list_any test (range_with_len first (last + 1 - first))

-- whether a price trades through a protected quotation: a bid above it, or an offer below it
abbrev pub goes_through : ℕ → Seen → Bool
goes_through millionths seen =
    list_any (is_through Bid (whole_price Bid millionths)) seen.bids
    || list_any (is_through Offer (whole_price Offer millionths)) seen.offers

-- the same of a symbol in a version
abbrev pub goes_through_at : Sizes → Tape → (sym millionths : ℕ) → (n : ℕ) → Bool
goes_through_at sizes tape sym millionths n = goes_through millionths (view_of sizes (version n tape) sym)

-- whether it trades through on all of the versions, on none, or on some
abbrev pub standing_of : (some_through some_clean : Bool) → Standing
standing_of false some_clean = standing.Clean
standing_of true false = standing.Through
standing_of true true = standing.Perhaps

-- the standing on one version, by the quotations that are traded through
abbrev pub own_standing : List (Side × Row) → Standing
own_standing passed = standing_of (nat_lt 0 (length passed)) (not (nat_lt 0 (length passed)))

-- the standing of a price on the versions from one to another
abbrev pub standing_over : (ℕ → Bool) → (first last : ℕ) → Standing
standing_over through first last = standing_of (any_version through first last) (any_version (λ n. not (through n)) first last)

-- whether a participant's quotation on a side is protected, and at a price or inferior to it: a bid not above it, an offer
-- not below it (17 CFR 242.611(b)(8)). No quotation is not inferior
abbrev pub is_inferior : Side → ℕ → Option Row → Bool
is_inferior side millionths None = false
is_inferior side millionths (Some row) = row.protected && not (is_through side (whole_price side millionths) row)

-- whether a participant's quotation flickered: in some version from one to another it was so
abbrev pub flickers : Sizes → Tape → (sym millionths first last : ℕ) → Side → (part : ℕ) → Bool
flickers sizes tape sym millionths first last side part =
    any_version (λ n. is_inferior side millionths (quotation_of sizes (version n tape) sym side part)) first last
