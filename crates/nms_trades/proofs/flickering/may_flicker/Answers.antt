-- `may_flicker`: the execution at hand is steady, as those before it are.
use Rattle.std.proofs.Common.{◌≡◌, Some, true, ap, arith, inl, inr, slice_get, subst, ◌∙◌}
use Rattle.std.proofs.lemmas.Bool.{cases_lt}
use Rattle.std.proofs.lemmas.Option.{get_or_from_slice_get, slice_get_within}
use Rattle.nms_trades.specs.Found.{IsSteady}
use Rattle.nms_trades.specs.declared.execution.Execution.{Execution}
use Rattle.nms_trades.proofs.flickering.may_flicker.Goals as goal

pub loop-place-preserved : goal.loop-place-preserved
loop-place-preserved c = λ place execution finding below at found. elim (cases_lt place c.loop-place.place) [
  | inl earlier ↦ c.loop-place.invariant place execution finding earlier at found
  | inr later ↦
      let here : c.loop-place.place ≡ place = omega (arith, below, later) in
      let steady : c.is_steady.result ≡ true = grind (arith, c.if-not-is_steady.false) in
      let own = c.index-executions-place.is
      ∙ get_or_from_slice_get c.args.executions.now c.loop-place.place execution c.index-executions-place.result
      (ap (slice_get c.args.executions.now) here ∙ at) in
      let answer = c.index-findings-place.is
      ∙ get_or_from_slice_get c.args.findings.now c.loop-place.place (Some finding) c.index-findings-place.result
      (ap (slice_get c.args.findings.now) here ∙ found) in
      subst (λ (e : Execution). IsSteady e finding) own (c.is_steady.ensures steady finding answer)
]

pub returns : goal.returns
returns c = λ is place execution finding at found.
    let within = slice_get_within c.args.executions.now place execution at in
    c.loop-place.invariant place execution finding (omega (arith, within, c.loop-place-test.false)) at found
