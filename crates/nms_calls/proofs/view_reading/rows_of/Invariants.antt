-- `rows_of`: what each turn keeps.
use Rattle.std.proofs.Common.{◌≡◌, length}
use Rattle.std.specs.Prelude.{All}
use Rattle.nms_calls.specs.RowsSaid.{ArePlaced}
use Rattle.nms_calls.specs.ViewSaid.{IsOfLook}
use Rattle.nms_calls.proofs.view_reading.rows_of.Given as goal

abbrev pub invariant-loop-place : goal.invariant-loop-place
invariant-loop-place l = record {
  count : length l.rows.items ≡ l.place;
  each : All (IsOfLook l.parts l.version) l.rows.items;
  placed : ArePlaced l.numbers l.rows.items;
}
