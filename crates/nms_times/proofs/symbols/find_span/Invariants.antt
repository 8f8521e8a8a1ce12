-- `find_span`: no more lines were counted than bytes were read, and what was found is a span of the versions.
use Rattle.std.proofs.Common.{◌+◌, ◌≤◌, ◌<◌, length, IfSome}
use Rattle.nms_times.proofs.symbols.find_span.Given as goal

abbrev pub invariant-loop-symbol : goal.invariant-loop-symbol
invariant-loop-symbol l = record {
  counted : l.line + length l.rest ≤ length l.text;
  within : IfSome l.found (λ span. (span.before < span.last) × (span.last ≤ l.versions));
}

abbrev pub decreases-loop-symbol : goal.decreases-loop-symbol
decreases-loop-symbol l = length l.rest
