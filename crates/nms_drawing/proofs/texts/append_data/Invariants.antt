-- `append_data`: the bytes so far and those that are left are those of the data.
use Rattle.std.proofs.Common.{◌≡◌, ◌++◌, drop}
use Rattle.nms_drawing.specs.Texts.{data_text}
use Rattle.nms_drawing.proofs.texts.append_data.Given as goal

abbrev pub invariant-loop-byte : goal.invariant-loop-byte
invariant-loop-byte l = l.out.items ++ data_text (drop l.byte-index l.json) ≡ l.fn.out.items ++ data_text l.json
