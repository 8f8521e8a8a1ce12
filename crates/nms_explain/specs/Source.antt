-- What a source that keeps the text of a record has left: what the source below it has.
use Rattle.std.specs.Prelude.{ℕ, List, Option}
use Rattle.nms_explain.specs.declared.record_source.RecordSource.{RecordSource}

abbrev pub left_of : {R : Type 0} → (R → Option (List ℕ)) → RecordSource R → Option (List ℕ)
left_of remaining kept = remaining kept.source
