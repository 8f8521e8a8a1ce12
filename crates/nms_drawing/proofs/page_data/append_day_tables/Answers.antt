-- `append_day_tables`: its four tables.
use Rattle.std.proofs.Common.{◌≡◌, ◌++◌}
use Rattle.nms_drawing.specs.Data.{day_tables_text}
use Rattle.nms_drawing.proofs.PartLemmas.{four_parts}
use Rattle.nms_drawing.proofs.page_data.append_day_tables.Goals as goal

pub returns : goal.returns
unfolding day_tables_text
returns c = four_parts _ _ _ _ _ _ _ _ c.append_table-4.new.out.items c.in_ok-append_table.ensures c.in_ok-append_table-2.ensures
    c.in_ok-append_table-3.ensures c.in_ok-append_table-4.ensures
