-- `write_own`: the keys and the words are printable.
use Rattle.std.proofs.Common.{refl}
use Rattle.nms_trades.proofs.object.write_own.Goals as goal

pub returns : goal.returns
returns g c = c.show_object.ensures (rw (
  c.what_of-what.ensures,
  c.deal_item.ensures,
  c.part_item.ensures,
  c.time_item.ensures,
  c.best_items-bid.ensures.price,
  c.best_items-bid.ensures.shares,
  c.best_items-offer.ensures.price,
  c.best_items-offer.ensures.shares,
) refl)
