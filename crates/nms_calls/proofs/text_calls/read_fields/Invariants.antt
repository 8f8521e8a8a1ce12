-- `read_fields`: the fields so far are in the row.
use Rattle.std.proofs.Common.{◌≡◌, [], map}
use Rattle.csv.specs.Records.{fields_of, partial_of}
use Rattle.nms_calls.proofs.text_calls.read_fields.Given as goal

abbrev pub invariant-loop-field : goal.invariant-loop-field
invariant-loop-field l = record {
  can_next : (goal.iterator-loop-field).can_next l.field-iterator;
  is_finite : (goal.iterator-loop-field).is_finite l.field-iterator;
  fields : fields_of l.row ≡ map (λ x. x.now) l.yielded;
  whole : partial_of l.row ≡ [];
}
