-- `Day::judge_shard`: what was found is that of the records, and was added, by `both_ok`.
use Rattle.std.proofs.Common.{◌≡◌, ◌+◌, ◌∙◌, List, OnOk, Option, Ok, Err, Result, filter, length, subst}
use Rattle.nms_stream.specs.Tapes.{sizes_in}
use Rattle.nms_trades.specs.Counts.{is_judged, stands}
use Rattle.nms_trades.specs.Day.{AreSums, judged_among}
use Rattle.nms_trades.specs.Found.{IsJudged}
use Rattle.nms_trades.specs.Turns.{AreAnswered}
use Rattle.nms_trades.specs.declared.execution.Execution.{Execution}
use Rattle.nms_trades.specs.declared.finding.Finding.{Finding}
use Rattle.nms_trades.proofs.day.Day.judge_shard.Goals as goal

-- what follows if a call succeeded, from two facts that hold then
both_ok : {T E P Q R : Type 0} (r : Result T E) → (P → Q → R) → OnOk r P → OnOk r Q → OnOk r R
both_ok (Ok t) f p q = f p q
both_ok (Err e) f p q = tt

pub returns-in-Ok : goal.returns-in-Ok
returns-in-Ok g c =
    let tape = c.args.tape.now in
    let executions = c.in_ok-records.records.executions.items in
    let found = c.in-Ok.findings.items in
    let new = c.add_findings.new.self in
    let old = c.args.self.now in
    both_ok c.add_findings.result
    (λ records sums. record {
      executions = executions;
      refused = c.in_ok-records.records.refused.items;
      found = found;
      judged = record {
        records = c.in_ok-records.ensures.numbered;
        known = rw (c.len.ensures ∙ tape.changes.ok.0) at c.in_ok-records.ensures.on;
        within = c.in_ok-records.ensures.window;
        judged = subst (λ (xs : List Execution). AreAnswered (IsJudged (sizes_in tape) tape.changes.items) xs found) c.deref.ensures.value
            c.in-Ok.ensures.found;
      };
      records = subst (λ (xs : List (Option Finding)). judged_among new.said.items
          ≡ judged_among old.said.items + length (filter (stands is_judged) xs)) c.deref-in-Ok.ensures.value records;
      sums = subst (λ (xs : List (Option Finding)). AreSums old.tally xs new.tally) c.deref-in-Ok.ensures.value sums;
    })
    c.add_findings.ensures.records c.add_findings.ensures.sums
