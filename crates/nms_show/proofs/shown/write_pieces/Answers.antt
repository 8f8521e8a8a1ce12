-- `write_pieces`: one piece more.
use Rattle.std.proofs.Common.{arith}
use Rattle.nms_show.specs.Safe.{IsPrintable, no_text}
use Rattle.nms_show.proofs.WriteFacts.{adds_none, piece_within, printable_part, printable_then, writes_err}
use Rattle.nms_show.proofs.shown.write_pieces.Goals as goal

pub loop-at-init : goal.loop-at-init
loop-at-init g c = record { within = omega arith; written = adds_none IsPrintable (g.W.Write.contents c.args.answers.now) no_text }

pub returns-in_err-at : goal.returns-in_err-at
returns-in_err-at g c =
    writes_err IsPrintable _ _ c.from_residual.result c.from_residual.ensures.0
    (printable_part _ _ _ c.loop-at.invariant.written c.in_err-at.ensures.shown)

pub loop-at-preserved : goal.loop-at-preserved
loop-at-preserved g c = record {
  within = piece_within c.loop-at.at c.in_ok-at.field-0 c.args.bytes.now (omega (arith, c.loop-at-test.true)) c.in_ok-at.ensures.within;
  written = printable_then _ _ _ c.loop-at.invariant.written c.in_ok-at.ensures.shown;
}
