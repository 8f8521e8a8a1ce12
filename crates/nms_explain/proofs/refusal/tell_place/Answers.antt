-- `tell_place`: each text of the line is printable.
use Rattle.std.proofs.Common.{refl}
use Rattle.nms_explain.proofs.refusal.tell_place.Goals as goal

pub refused-requires : goal.refused-requires
refused-requires c = record {
  code = c.text.ensures.plain;
  items =
      rw (c.words_of.ensures.field, c.words_of.ensures.number, c.words_of.ensures.comma, c.words_of.ensures.name) refl;
}
