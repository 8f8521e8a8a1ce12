-- `number_days`: the days of the symbols so far.
use Rattle.std.proofs.Common.{◌≡◌, false, get_or}
use Rattle.nms_drawing.specs.Drawn.{days_among, symbols_among}
use Rattle.nms_drawing.proofs.content.number_days.Given as goal

abbrev pub invariant-loop-place : goal.invariant-loop-place
invariant-loop-place l = record {
  days : l.traded.days.items ≡ days_among l.place (λ sym. get_or l.marks sym false);
  symbols : l.traded.symbols.items ≡ symbols_among l.place (λ sym. get_or l.marks sym false);
}
