-- How many opening changes a roster's board may have. This product's own rule.
use Rattle.std.specs.Prelude.{ℕ, ◌+◌, ◌*◌, length}
use Rattle.nms_quote.specs.Roster.{Listing}

-- for each symbol a round lot, and two sides of each participant
abbrev pub most_opening : Listing → ℕ
most_opening roster = length roster.syms * (2 * length roster.parts + 1)
