-- What a look owns: a share of the right to read the board if the handle is open, and nothing if it is closed. `k` shares of
-- the loan `a`. This product's own rule.
use Rattle.std.specs.Prelude.{◌≡◌, ◌≢◌, ℕ, Option, None, Some}
use base.Fml.{Fml, ftrue, fex}
use denote.RawPtr.{Ptr}
use Rattle.left_right.specs.Parted.{part_owns}
use Rattle.nms_calls.specs.Opened.{Opened}
use Rattle.nms_calls.specs.contracts.open_board.OpenBoard.{the_row}
use Rattle.nms_c.specs.Held.{open_mark}

abbrev pub looked : ℕ → Ptr → Option Opened → ℕ → ℕ → Fml
looked m p None a k = fex (m ≢ open_mark) (λ _. ftrue)
looked m p (Some x) a k = fex (m ≡ open_mark) (λ _. part_owns the_row p x a k)
