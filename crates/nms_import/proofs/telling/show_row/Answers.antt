-- `show_row`: the texts of the line, or of the object, are printable, and what the writer took of it is a prefix.
use Rattle.std.proofs.Common.{refl}
use Rattle.nms_import.proofs.ShowFacts.{shown_part}
use Rattle.nms_import.proofs.telling.show_row.Goals as goal

pub returns-then-is_json : goal.returns-then-is_json
returns-then-is_json g c = record {
  safe = λ what sentence.
      shown_part c.object.result _ _
      (c.object.ensures (rw (c.what_or_remark.ensures what) (rw c.item_of_place.ensures (rw sentence refl))));
}

pub returns : goal.returns
returns g c = record {
  safe = λ what sentence.
      shown_part c.write_items.result _ _
      (c.write_items.ensures (rw (c.if_placed.ensures refl) (rw c.item_of_place-2.ensures (rw what (rw (c.if_any.ensures refl) (rw sentence
      (rw (c.if_placed-2.ensures refl) (rw (c.if_placed-3.ensures refl) refl))))))));
}
