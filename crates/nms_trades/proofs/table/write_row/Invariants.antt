-- `write_row`: each item of the columns is printable.
use Rattle.std.specs.List.{AllPass}
use Rattle.nms_show.specs.Plain.{is_own_plain}
use Rattle.nms_show.specs.declared.item.Column.{Column}
use Rattle.nms_trades.proofs.table.write_row.Given as goal

abbrev pub invariant-loop-place : goal.invariant-loop-place
invariant-loop-place l = AllPass (λ (column : Column). is_own_plain column.item) l.columns
