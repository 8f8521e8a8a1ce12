-- `write_page`: the answers are those of the file's tape.
use Rattle.nms_drawing.proofs.executions.trades_page.write_page.Goals as goal

pub returns-in-Ok-write_both-clause-judged : goal.returns-in-Ok-write_both-clause-judged
returns-in-Ok-write_both-clause-judged g c =
    let judged = c.in-Ok-judge_source.judged in
    let same = c.in-Ok.ensures.roster in
    record {
      tape = c.in-Ok.tape.changes.items;
      file = c.in-Ok.ensures.file;
      on = record {
        executions = judged.records.executions.items;
        refused = judged.records.refused.items;
        found = judged.findings.items;
        judged = rw same at c.in-Ok-judge_source.ensures.judged;
        ends = c.ending.ensures;
        written = λ csv. rw same at (c.in-Ok-write_both.ensures.written csv);
      };
    }
