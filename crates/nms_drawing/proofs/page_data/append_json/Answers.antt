-- `append_json`: its six parts.
use Rattle.std.proofs.Common.{◌≡◌, ◌++◌}
use Rattle.nms_drawing.proofs.PartLemmas.{six_parts}
use Rattle.nms_drawing.proofs.page_data.append_json.Goals as goal

pub returns : goal.returns
returns c = six_parts _ _ _ _ _ _ _ _ _ _ _ _ c.push.new.self.items c.in_ok-extend_from_slice.ensures.items c.in_ok-append_lists.ensures
    c.in_ok-append_day_tables.ensures c.in_ok-append_trade_tables.ensures c.in_ok-append_plan_tables.ensures c.in_ok-push.ensures.items
