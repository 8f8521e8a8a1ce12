-- What the handle of a board owns: the board if it is open, and nothing if it is closed. This product's own rule.
use Rattle.std.specs.Prelude.{◌≡◌, ◌≢◌, ℕ, Option, None, Some}
use base.Fml.{Fml, ftrue, fex}
use denote.RawPtr.{Ptr}
use Rattle.std_alloc.specs.Box.Ownership.{box_owns}
use Rattle.std.specs.contracts.impls.GlobalAllocator.TheImpl.{ghosts}
use Rattle.std.specs.declared.alloc.Global.{Global}
use Rattle.nms_calls.specs.Opened.{Opened}
use Rattle.nms_calls.specs.contracts.open_board.OpenBoard.{the_row}

-- the word of an open handle
abbrev pub open_mark : ℕ
open_mark = 78

abbrev pub held : ℕ → Ptr → Global → Option Opened → Fml
held m p a None = fex (m ≢ open_mark) (λ _. ftrue)
held m p a (Some k) = fex (m ≡ open_mark) (λ _. box_owns (ghosts.dealloc_token a) the_row p k)
