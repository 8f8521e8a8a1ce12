-- A text in a caller's buffer. This product's own rule.
use Rattle.std.specs.Prelude.{◌≡◌, ◌+◌, ℕ, nat_lt, List, length, take, drop, slice_get, Option, Some, None, if◌then◌else◌}
use Rattle.nms_calls.specs.declared.call_fault.CallFault.{CallFault}
use Rattle.nms_calls.specs.declared.call_fault.CallFault.TheVariants as fault

-- why a text is not written to a buffer: it and a closing zero do not fit
abbrev pub text_fault : List ℕ → List ℕ → Option CallFault
text_fault text out = if nat_lt (length text) (length out) then None else Some fault.NoRoom

-- the text and a closing zero at the front of a buffer, the rest as it was, and the text's length
pub record IsWritten (text before out : List ℕ) (bytes : ℕ) : Type 0 where
  pub bytes_of : bytes ≡ length text
  pub front : take (length text) out ≡ text
  pub zero : slice_get out (length text) ≡ Some 0
  pub rest : drop (length text + 1) out ≡ drop (length text + 1) before
