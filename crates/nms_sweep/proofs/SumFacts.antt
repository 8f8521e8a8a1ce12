-- How sums over rows grow by one row, in the words of this crate.
use Rattle.std.proofs.Common.{ℕ, ◌≡◌, ◌<◌, ◌+◌, List, [], length, take, get_or}
use Rattle.nms_rules.specs.Assignment.{total}
use Rattle.nms_rules.specs.Usable.{Usable}
use Rattle.nms_rules.proofs.Offered as sums

pub total_none : (part : Usable → ℕ) → total part [] ≡ 0
total_none = sums.total_none

pub total_more : (part : Usable → ℕ) (rows : List Usable) (i : ℕ) (row : Usable) → i < length rows → row ≡ get_or rows i row
    → total part (take (i + 1) rows) ≡ total part (take i rows) + part row
total_more = sums.total_more
