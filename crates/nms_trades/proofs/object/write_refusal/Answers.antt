-- `write_refusal`: the keys and the code are printable.
use Rattle.std.proofs.Common.{refl}
use Rattle.nms_trades.proofs.ShownFacts.{plain_code}
use Rattle.nms_trades.proofs.object.write_refusal.Goals as goal

pub returns : goal.returns
returns g c =
    c.show_object.ensures (rw (c.code.ensures, plain_code c.args.refusal.now.fault) refl)
