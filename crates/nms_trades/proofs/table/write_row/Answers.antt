-- `write_row`: the items of the columns are printable after the loop.
use Rattle.std.proofs.lemmas.List.Sums.{list_all-from_AllPass}
use Rattle.nms_show.specs.Plain.{is_own_plain}
use Rattle.nms_show.specs.declared.item.Column.{Column}
use Rattle.nms_trades.proofs.table.write_row.Goals as goal

pub row-requires : goal.row-requires
row-requires c = record {
  plain = list_all-from_AllPass (λ (column : Column). is_own_plain column.item) c.loop-place.columns c.loop-place.invariant;
}
