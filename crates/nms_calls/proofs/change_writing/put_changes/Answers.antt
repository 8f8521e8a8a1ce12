-- `put_changes`: one more place is written at each turn, and its change is said.
use Rattle.std.proofs.Common.{ℕ, ◌<◌, ◌∙◌, IfSome, length, slice_get, arith}
use Rattle.std.proofs.lemmas.List.{length-set}
use Rattle.nms_calls.specs.ChangeNumbers.{IsSaid, change_at}
use Rattle.nms_calls.specs.declared.change_numbers.NmsChange.{NmsChange}
use Rattle.nms_calls.proofs.ChangeLemmas.{one_more}
use Rattle.nms_calls.proofs.PlaceLemmas.{filled-one_more}
use Rattle.nms_calls.proofs.change_writing.put_changes.Goals as goal

pub loop-place-preserved : goal.loop-place-preserved
loop-place-preserved c =
    let numbers_at : ℕ → NmsChange = λ place. change_at (slice_get c.args.changes.now place) in
    let said_at : ℕ → Type 0 = λ place. IfSome (slice_get c.args.changes.now place) IsSaid in
    let within : c.loop-place.place < length c.loop-place.places = omega (arith, c.loop-place.invariant.0) in (
      length-set c.loop-place.places c.loop-place.place c.change_at.result ∙ c.loop-place.invariant.0,
      filled-one_more c.loop-place.places c.loop-place.place c.change_at.result numbers_at within c.loop-place.invariant.1
          c.change_at.ensures.numbers,
      one_more c.loop-place.place said_at c.loop-place.invariant.2 c.change_at.ensures.said,
    )
