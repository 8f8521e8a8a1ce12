-- `after_lines`: what holds in each turn of its loop.
use Rattle.std.proofs.Common.{◌≡◌, ◌≤◌, length}
use Rattle.nms_serving.specs.Resuming.{after_lines}
use Rattle.nms_serving.proofs.resuming.after_lines.Given as goal

-- what comes after the lines that are left, in the rest of the text, is what comes after all of them
abbrev pub invariant-loop-left : goal.invariant-loop-left
invariant-loop-left l = record {
  same : after_lines l.fn.lines l.fn.text ≡ after_lines l.left l.rest;
  within : length l.rest ≤ length l.fn.text;
}

abbrev pub decreases-loop-left : goal.decreases-loop-left
decreases-loop-left l = length l.rest
