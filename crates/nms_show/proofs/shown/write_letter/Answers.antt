-- `write_letter`: a letter is printable as it is.
use Rattle.std.proofs.Common.{subst, sym, ◌∙◌}
use Rattle.nms_show.specs.Safe.{IsPrintable}
use Rattle.nms_show.proofs.SafeFacts.{letter_shown, printable_one}
use Rattle.nms_show.proofs.shown.write_letter.Goals as goal

pub write_printable-requires : goal.write_printable-requires
write_printable-requires g c = record {
  printable = subst IsPrintable (sym (c.as_bytes.ensures.value ∙ c.encode_utf8-text.ensures.value))
      (printable_one c.args.letter (letter_shown c.args.letter c.requires));
}
