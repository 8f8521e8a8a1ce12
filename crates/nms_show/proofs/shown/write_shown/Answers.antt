-- `write_shown`: the first bytes, and how many more there are.
use Rattle.std.proofs.Common.{arith, sym}
use Rattle.std.proofs.lemmas.List.{length-take-le}
use Rattle.nms_show.proofs.WriteFacts.{printable_writes}
use Rattle.nms_show.proofs.shown.write_shown.Goals as goal

pub slice_bounds-write_pieces-end : goal.slice_bounds-write_pieces-end
slice_bounds-write_pieces-end g c = sym (length-take-le _ c.args.bytes.now (omega (arith, c.if-bytes-le-MOST_SHOWN.false)))

pub returns : goal.returns
returns g c = printable_writes c.write_left_out.result _ _ _ c.in_ok-write_pieces.ensures c.write_left_out.ensures
