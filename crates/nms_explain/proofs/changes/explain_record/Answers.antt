-- `explain_record`: one record more, read or refused.
use Rattle.std.proofs.Common.{ap, sym}
use Rattle.nms_lines.specs.Faults.{unplaced}
use Rattle.nms_lines.specs.Lines.{reading}
use Rattle.csv.specs.Records.{fields_of}
use Rattle.nms_explain.proofs.CountFacts.{tally_refused, tally_taken}
use Rattle.nms_explain.proofs.changes.explain_record.Goals as goal

pub returns-in-Ok-clause-counts : goal.returns-in-Ok-clause-counts
returns-in-Ok-clause-counts g c = λ seen before.
    tally_taken (reading c.args.asked.now.roster.now c.args.asked.now.from) seen (fields_of c.args.row.now)
    c.args.tally.now c.take.new.self before
    c.take.ensures.records c.in-Ok.line (ap unplaced (sym c.in-Ok.ensures.line)) c.take.ensures.refused c.take.ensures.publishes

pub returns-in-Err-clause-counts : goal.returns-in-Err-clause-counts
returns-in-Err-clause-counts g c = λ seen before.
    tally_refused (reading c.args.asked.now.roster.now c.args.asked.now.from) seen (fields_of c.args.row.now)
    c.args.tally.now c.refuse.new.self before
    c.refuse.ensures.records c.in-Err.refused.fault (ap unplaced (sym c.in-Err.ensures.line)) c.refuse.ensures.refused c.refuse.ensures.publishes
