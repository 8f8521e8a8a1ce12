-- `judge_source`: clause `judged`, what was found and written is that of the records.
use Rattle.std.proofs.Common.{◌∙◌, List, Option, subst}
use Rattle.std.specs.Io.KnownBytes.{Appends}
use Rattle.nms_stream.specs.Tapes.{sizes_in}
use Rattle.nms_trades.specs.Files.{text_in}
use Rattle.nms_trades.specs.Found.{IsJudged}
use Rattle.nms_trades.specs.Turns.{AreAnswered}
use Rattle.nms_trades.specs.declared.execution.Execution.{Execution}
use Rattle.nms_trades.specs.declared.finding.Finding.{Finding}
use Rattle.nms_trades.proofs.trades.judge_source.Goals as goal

pub returns-in-Ok-clause-judged : goal.returns-in-Ok-clause-judged
returns-in-Ok-clause-judged g c =
    let tape = c.args.tape.now in
    let executions = c.in_ok-records.records.executions.items in
    let refused = c.in_ok-records.records.refused.items in
    let found = c.in-Ok.findings.items in
    record {
      executions = executions;
      refused = refused;
      found = found;
      judged = record {
        records = c.in_ok-records.ensures.numbered;
        known = rw (c.len.ensures ∙ tape.changes.ok.0) at c.in_ok-records.ensures.on;
        within = c.in_ok-records.ensures.window;
        judged = subst (λ (xs : List Execution). AreAnswered (IsJudged (sizes_in tape) tape.changes.items) xs found) c.deref.ensures.value
            c.in-Ok.ensures.found;
      };
      ends = c.ending.ensures;
      written = λ csv. subst (λ (xs : List (Option Finding)). Appends (g.W.Write.contents c.args.answers.now)
          (g.W.Write.contents c.write_findings.new.answers) (text_in c.args.layout tape.roster.now executions refused xs))
          c.deref-in-Ok.ensures.value (c.in_ok-write_findings-in-Ok.ensures.written csv);
    }
