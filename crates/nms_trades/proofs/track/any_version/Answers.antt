-- `any_version`: by `found_at`, `none_more` and `no_version`.
use Rattle.std.proofs.Common.{◌+◌, ◌∙◌, arith, sym}
use Rattle.nms_trades.specs.Track.{holds_of}
use Rattle.nms_trades.proofs.TrackFacts.{found_at, no_version, none_more}
use Rattle.nms_trades.proofs.track.any_version.Goals as goal

pub returns-then-marks-place : goal.returns-then-marks-place
returns-then-marks-place c = λ all upto is within.
    sym (no_version (λ n. holds_of c.args.test c.args.millionths (all n)) c.args.first c.args.last
    (λ n low high. c.loop-place.invariant.none all upto is within n low high (λ below. omega (arith, high, c.if-marks-place.true))))

pub returns-then-holds_of : goal.returns-then-holds_of
returns-then-holds_of c = λ all upto is within.
    sym (found_at all upto c.args.marks.now c.args.test c.args.millionths c.args.first c.args.last c.loop-place.place is within
    c.if-first-last.false c.loop-place-test.true c.if-marks-place.false (c.loop-place.invariant.next all upto is)
    (sym c.holds_of.ensures ∙ c.if-holds_of.true))

pub loop-place-preserved : goal.loop-place-preserved
loop-place-preserved c = record {
  next = λ all upto is more.
      let before = c.loop-place.invariant.next all upto is (omega (arith, more)) in
      omega (arith, before, is.rising (c.loop-place.place + 1) more);
  none = λ all upto is within.
      none_more all upto c.args.marks.now c.args.test c.args.millionths c.args.first c.args.last c.loop-place.place is within
      c.loop-place-test.true (c.loop-place.invariant.none all upto is within) (sym c.holds_of.ensures ∙ c.if-holds_of.false);
}

pub returns : goal.returns
returns c = λ all upto is within.
    sym (no_version (λ n. holds_of c.args.test c.args.millionths (all n)) c.args.first c.args.last
    (λ n low high. c.loop-place.invariant.none all upto is within n low high (λ below. omega (arith, below, c.loop-place-test.false))))
