-- `append_string`: the bytes so far and those that are left are those of the text.
use Rattle.std.proofs.Common.{◌≡◌, ◌++◌, drop}
use Rattle.std.specs.List.{flat_map}
use Rattle.nms_show.specs.Json.{json_byte}
use Rattle.nms_drawing.proofs.texts.append_string.Given as goal

abbrev pub invariant-loop-byte : goal.invariant-loop-byte
invariant-loop-byte l = l.out.items ++ flat_map json_byte (drop l.byte-index l.text) ≡ l.initial.out.items ++ flat_map json_byte l.text
