-- `lines_begun`: what holds in each turn of its loop.
use Rattle.std.proofs.Common.{◌≡◌, ◌≤◌, ◌+◌, true, drop}
use Rattle.nms_serving.specs.Resuming.{lines_begun}
use Rattle.nms_serving.proofs.resuming.lines_begun.Given as goal

-- the lines so far, and those that begin in the rest of the text, are all lines
abbrev pub invariant-loop-byte : goal.invariant-loop-byte
invariant-loop-byte l = record {
  all : l.count + lines_begun l.begins (drop l.byte-index l.text) ≡ lines_begun true l.text;
  few : l.count ≤ l.byte-index;
}
