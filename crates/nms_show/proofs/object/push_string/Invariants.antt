-- `push_string`: a quotation mark and the bytes so far are after what was there.
use Rattle.std.proofs.Common.{◌≡◌, ◌++◌, ◌∷◌, take}
use Rattle.std.specs.Prelude.{flat_map}
use Rattle.nms_show.specs.Json.{json_byte}
use Rattle.nms_show.proofs.object.push_string.Given as goal

abbrev pub invariant-loop-byte : goal.invariant-loop-byte
invariant-loop-byte l = l.text.items ≡ l.fn.text.items ++ 34 ∷ flat_map json_byte (take l.byte-index l.own)
