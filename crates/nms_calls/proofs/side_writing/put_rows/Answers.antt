-- `put_rows`: one more place is written at each turn.
use Rattle.std.proofs.Common.{ℕ, ◌<◌, ◌∙◌, length, slice_get, arith}
use Rattle.std.proofs.lemmas.List.{length-set}
use Rattle.nms_calls.specs.RowNumbers.{row_numbers}
use Rattle.nms_calls.specs.declared.row_numbers.NmsRow.{NmsRow}
use Rattle.nms_calls.proofs.PlaceLemmas.{filled-one_more}
use Rattle.nms_calls.proofs.side_writing.put_rows.Goals as goal

pub loop-place-preserved : goal.loop-place-preserved
loop-place-preserved c =
    let numbers_at : ℕ → NmsRow = λ place. row_numbers (slice_get c.args.rows.now place) in
    let within : c.loop-place.place < length c.loop-place.places = omega (arith, c.loop-place.invariant.0) in (
      length-set c.loop-place.places c.loop-place.place c.row_at.result ∙ c.loop-place.invariant.0,
      filled-one_more c.loop-place.places c.loop-place.place c.row_at.result numbers_at within c.loop-place.invariant.1 c.row_at.ensures,
    )
