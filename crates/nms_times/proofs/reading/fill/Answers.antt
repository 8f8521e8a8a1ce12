-- `fill`: one more line has its time, by `one_more`.
use Rattle.std.proofs.Common.{◌≡◌, ◌++◌, ◌∷◌, [], arith, ap, sym, ◌∙◌, length-append, Some}
use Rattle.nms_times.specs.TimesText.{line_at, time_in}
use Rattle.nms_times.proofs.TextFacts.{one_more}
use Rattle.nms_times.proofs.reading.fill.Goals as goal

pub loop-place-preserved : goal.loop-place-preserved
loop-place-preserved c =
    let text = c.args.text.now in
    let width = c.width_of-width.result in
    let times = c.loop-place.all.items in
    let place = c.loop-place.place in
    let time = c.in-Some.time in
    let more : c.keep.new.all.items ≡ times ++ time ∷ [] = c.in_ok-keep.ensures in
    let here : time_in width (line_at width text place) ≡ Some time =
    ap (λ line. time_in width line) (sym c.line_at.ensures.line) ∙ sym c.in-Some.ensures in
    let counted = c.loop-place.invariant.counted in
    record {
      counted = rw more (omega (arith, counted, length-append times (time ∷ [])));
      read = rw more (one_more width text times place time counted c.loop-place.invariant.read here);
    }
