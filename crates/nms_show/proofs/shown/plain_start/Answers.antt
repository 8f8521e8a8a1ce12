-- `plain_start`: one byte more is printable.
use Rattle.std.proofs.Common.{arith, get_or}
use Rattle.std.proofs.lemmas.List.{take_more}
use Rattle.nms_show.specs.Safe.{no_text}
use Rattle.nms_show.proofs.SafeFacts.{printable_more}
use Rattle.nms_show.proofs.shown.plain_start.Goals as goal

pub loop-plain-init : goal.loop-plain-init
loop-plain-init c = record { within = omega arith; printable = no_text }

pub loop-plain-preserved : goal.loop-plain-preserved
loop-plain-preserved c =
    let at = c.loop-plain.plain in
    let both = c.is_plain.ensures c.if-is_plain.true in
    record {
      within = omega (arith, c.loop-plain-test.true);
      printable = printable_more at c.args.bytes.now (get_or c.args.bytes.now at 0) (take_more c.args.bytes.now at 0 c.loop-plain-test.true)
          both.0 both.1 c.loop-plain.invariant.printable;
    }
