-- `head_before`: the call of `write_digits`.
use Rattle.std.proofs.Common.{◌≤◌, length, arith}
use Rattle.std.specs.Fmt.{decimal}
use Rattle.std.proofs.lemmas.Fmt.{length-decimal-le}
use Rattle.nms_stream.proofs.line.head_before.Goals as goal

pub write_digits-requires : goal.write_digits-requires
write_digits-requires c =
    let short : length (decimal c.args.number) ≤ 20 =
    length-decimal-le 20 c.args.number (omega arith) (omega (arith, c.ranges.number.fits)) c.ranges.number.fits in (
      omega (
        arith,
        short,
        c.requires.room,
        c.requires.sym,
        c.requires.market,
        c.text_before-end.ensures.start,
        c.text_before-end-2.ensures.start,
      ),
      omega (arith, c.requires.within, c.text_before-end.ensures.start, c.text_before-end-2.ensures.start),
    )
