-- `write_text`: what holds in each turn of its loop: `within` and `written`.
use Rattle.std.proofs.Common.{◌≤◌, length, take}
use Rattle.std.specs.Io.KnownBytes.{Appends}
use Rattle.nms_lines.proofs.text_writing.write_text.Given as goal

-- `done` bytes of the text were written
abbrev pub invariant-loop : goal.invariant-loop
invariant-loop g l = record {
  within : l.done ≤ length l.fn.text;
  written : Appends (g.W.Write.contents l.fn.writer) (g.W.Write.contents l.writer) (take l.done l.fn.text);
}
