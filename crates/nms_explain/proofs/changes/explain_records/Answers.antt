-- `explain_records`: one record more was counted; and at the end all were.
use Rattle.std.proofs.Common.{Bool, Ok, ap, arith, ◌++◌, ◌∷◌, []}
use Rattle.csv.specs.Records.{fields_of}
use Rattle.nms_explain.proofs.CountFacts.{tally_none}
use Rattle.nms_show.specs.Safe.{IsSafe}
use Rattle.nms_show.proofs.Offered.{nothing_added, safe_part, safe_then, whole_part, writes_err}
use Rattle.nms_explain.proofs.changes.explain_records.Goals as goal

pub loop-turn-init : goal.loop-turn-init
loop-turn-init g c = record {
  turn = c.new-tally.ensures.records;
  within = c.new-tally.ensures.within;
  counts = λ bytes reads. (
    [],
    reads,
    tally_none _ c.new-tally.result c.new-tally.ensures.records c.new-tally.ensures.refused
        c.new-tally.ensures.publishes,
  );
  safe = nothing_added (g.W.Write.contents c.args.answers.now);
}

pub loop-turn-preserved : goal.loop-turn-preserved
loop-turn-preserved g c = record {
  turn = omega (arith, c.in_ok-explain_record-in-Ok-true.ensures.records, c.loop-turn.invariant.turn);
  within = c.in_ok-explain_record-in-Ok-true.ensures.within;
  counts = λ bytes reads.
      let had = c.loop-turn.invariant.counts bytes reads in
      let found = c.in-Ok-true.ensures.found bytes had.0 (had.1) (ap (λ (b : Bool). Ok b) c.in-Ok-true.field-0-test) in
      (had.0 ++ fields_of c.next_record.new.row ∷ [], found, c.in_ok-explain_record-in-Ok-true.ensures.counts had.0 had.2);
  safe = safe_then _ _ _ c.loop-turn.invariant.safe c.in_ok-pass_on-in-Ok-true.ensures.safe;
}

pub returns-in-Ok-false : goal.returns-in-Ok-false
returns-in-Ok-false g c = record {
  counts = λ bytes reads.
      let had = c.loop-turn.invariant.counts bytes reads in
      (had.0, c.in-Ok-false.ensures.end bytes had.0 had.1 (ap (λ (b : Bool). Ok b) c.in-Ok-false.field-0-test), had.2);
  safe = c.loop-turn.invariant.safe;
}

pub returns-in_err-explain_record-in-Ok-true-clause-safe : goal.returns-in_err-explain_record-in-Ok-true-clause-safe
returns-in_err-explain_record-in-Ok-true-clause-safe g c =
    writes_err IsSafe _ _ c.from_residual.result c.from_residual.ensures.0 (whole_part _ _ c.loop-turn.invariant.safe)

pub returns-in_err-pass_on-in-Ok-true-clause-safe : goal.returns-in_err-pass_on-in-Ok-true-clause-safe
returns-in_err-pass_on-in-Ok-true-clause-safe g c =
    writes_err IsSafe _ _ c.from_residual-in_err-pass_on-in-Ok-true.result c.from_residual-in_err-pass_on-in-Ok-true.ensures.0
    (safe_part _ _ _ c.loop-turn.invariant.safe c.in_err-pass_on-in-Ok-true.ensures.safe)
