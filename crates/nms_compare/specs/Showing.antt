-- Where the rows that are not equal are shown. This product's own rule.
use Rattle.std.specs.Prelude.{ℕ, List, if◌then◌else◌}
use Rattle.nms_compare.specs.Summed.{Summed}
use Rattle.nms_compare.specs.declared.TheConstants.{MOST_SHOWN}
use Rattle.nms_compare.specs.declared.comparing.TheConstants.{MOST_ROWS}
use Rattle.nms_compare.specs.declared.showing.Showing.{Showing}

-- the writer, the name of the file, how many rows may still be shown, and how many had each finding
pub record Shown (W : Type 0) : Type 0 where
  pub out : W
  pub file : List ℕ
  pub left : ℕ
  pub sums : Summed

-- how many are shown: all that a comparison has, or the first ones
abbrev pub most_of : Showing → ℕ
most_of showing = if showing.all then MOST_ROWS else MOST_SHOWN
