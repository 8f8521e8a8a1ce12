-- `first_failing`: all that it promises and the call of `fails_bound`, by `none_at`, `position_found` and
-- `position_none`.
use Rattle.std.proofs.Common.{Bool, ap, sym, ◌∙◌, arith}
use Rattle.nms_quote.specs.declared.certificate.Cut.{Cut}
use Rattle.nms_cert.specs.Doubts.{fails_bound, is_out_of_range, some_is_out_of_range}
use Rattle.nms_rules.specs.Usable.{rank_of}
use Rattle.nms_cert.proofs.FindLemmas.{none_at, position_found, position_none}
use Rattle.nms_cert.proofs.cuts.first_failing.Goals as goal

pub fails_bound-requires-clause-range : goal.fails_bound-requires-clause-range
unfolding some_is_out_of_range
fails_bound-requires-clause-range c =
    none_at (λ (cut : Cut). is_out_of_range cut.kind) c.args.cuts.now c.loop-cut.cut-index c.cut-item.result c.loop-cut-test.true
    c.cut-item.is c.requires.range

pub returns-then-fails_bound : goal.returns-then-fails_bound
returns-then-fails_bound c =
    let fails : Cut → Bool = λ cut. fails_bound c.args.rows.now c.args.most c.args.cost (rank_of c.args.side cut.price) cut.kind in
    rw c.loop-cut.invariant.at (position_found fails c.args.cuts.now c.loop-cut.cut-index c.cut-item.result c.loop-cut-test.true
    c.cut-item.is c.loop-cut.invariant.none
    (ap (λ cutoff. fails_bound c.args.rows.now c.args.most c.args.cost cutoff c.cut-item.result.kind) (sym c.of.ensures)
    ∙ sym c.fails_bound.ensures ∙ c.if-fails_bound.true))

pub returns : goal.returns
returns c =
    let fails : Cut → Bool = λ cut. fails_bound c.args.rows.now c.args.most c.args.cost (rank_of c.args.side cut.price) cut.kind in
    position_none fails c.args.cuts.now (λ k d below. c.loop-cut.invariant.none k d (omega (arith, below, c.loop-cut-test.false)))
