-- `append_trade_tables`: its three tables.
use Rattle.std.proofs.Common.{◌≡◌, ◌++◌}
use Rattle.nms_drawing.specs.Data.{trade_tables_text}
use Rattle.nms_drawing.proofs.PartLemmas.{three_parts}
use Rattle.nms_drawing.proofs.page_data.append_trade_tables.Goals as goal

pub returns : goal.returns
unfolding trade_tables_text
returns c = three_parts _ _ _ _ _ _ c.append_table-3.new.out.items c.in_ok-append_table.ensures c.in_ok-append_table-2.ensures
    c.in_ok-append_table-3.ensures
