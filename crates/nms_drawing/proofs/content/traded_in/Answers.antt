-- `traded_in`: what is marked is who has a day.
use Rattle.std.proofs.Common.{◌≡◌, ℕ, ap, arith, false, get_or, length, ◌∙◌}
use Rattle.std.proofs.lemmas.List.FromFn.{length-map-range_with_len}
use Rattle.std.proofs.lemmas.Result.{IfOk-weaker}
use Rattle.nms_drawing.specs.Drawn.{day_among, days_among, has_day, symbols_among}
use Rattle.nms_drawing.proofs.DayLemmas.{as_many, marked_days, marked_symbols}
use Rattle.nms_drawing.proofs.content.traded_in.Goals as goal

pub number_days-requires : goal.number_days-requires
number_days-requires c =
    let long : length c.deref.result.now ≡ c.syms.result =
    as_many c.syms.result (has_day c.args.executions.now) c.deref.result.now (c.deref.ensures.value ∙ c.in_ok-marks.ensures) in
    omega (arith, long, c.syms.ensures.within)

pub returns-clause-len : goal.returns-clause-len
returns-clause-len c =
    let marks = c.deref.result.now in
    let long : length marks ≡ c.syms.result =
    as_many c.syms.result (has_day c.args.executions.now) marks (c.deref.ensures.value ∙ c.in_ok-marks.ensures) in
    IfOk-weaker c.number_days.result _ _ (λ traded is. ap length is
    ∙ length-map-range_with_len (day_among (λ s. get_or marks s false)) 0 (length marks) ∙ long ∙ c.syms.ensures.count)
    c.number_days.ensures.days

pub returns-clause-days : goal.returns-clause-days
returns-clause-days c =
    let has = has_day c.args.executions.now in
    let are = marked_days c.syms.result has c.deref.result.now (c.deref.ensures.value ∙ c.in_ok-marks.ensures) in
    IfOk-weaker c.number_days.result _ _ (λ traded is. is ∙ are ∙ ap (λ (n : ℕ). days_among n has) c.syms.ensures.count)
    c.number_days.ensures.days

pub returns-clause-symbols : goal.returns-clause-symbols
returns-clause-symbols c =
    let has = has_day c.args.executions.now in
    let are = marked_symbols c.syms.result has c.deref.result.now (c.deref.ensures.value ∙ c.in_ok-marks.ensures) in
    IfOk-weaker c.number_days.result _ _ (λ traded is. is ∙ are ∙ ap (λ (n : ℕ). symbols_among n has) c.syms.ensures.count)
    c.number_days.ensures.symbols
