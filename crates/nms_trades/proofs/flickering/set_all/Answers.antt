-- `set_all`: for one more execution all is found, by `answered_one`; at the end it is for all, by `answered_end`.
use Rattle.std.proofs.Common.{◌∙◌, arith}
use Rattle.std.proofs.lemmas.List.{length-set}
use Rattle.nms_stream.specs.Tapes.{sizes_in}
use Rattle.nms_trades.specs.Found.{IsJudged}
use Rattle.nms_trades.proofs.BelowFacts.{answered_end, answered_one, rest_one}
use Rattle.nms_trades.proofs.flickering.set_all.Goals as goal

pub loop-place-preserved : goal.loop-place-preserved
loop-place-preserved c = record {
  places = length-set c.loop-place.findings.items c.loop-place.place c.set_one.new.answer ∙ c.loop-place.invariant.places;
  done = answered_one (IsJudged (sizes_in c.args.tape.now) c.args.tape.now.changes.items) c.args.executions.now c.loop-place.findings.items
      c.loop-place.place c.index-executions-place.result c.set_one.new.answer
      (omega (arith, c.loop-place-test.true, c.loop-place.invariant.places, c.requires.places)) c.index-executions-place.is
      c.in_ok-set_one.ensures c.loop-place.invariant.done;
  rest = rest_one c.loop-place.findings.items c.args.findings.now.items c.loop-place.place c.set_one.new.answer
      c.loop-place.invariant.rest;
}

pub returns-clause-found : goal.returns-clause-found
returns-clause-found c =
    answered_end (IsJudged (sizes_in c.args.tape.now) c.args.tape.now.changes.items) c.args.executions.now c.loop-place.findings.items
    c.loop-place.place (omega (arith, c.loop-place-test.false)) c.loop-place.invariant.done
