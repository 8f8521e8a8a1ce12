-- `open_records`: clause `reads`, by `begins_first` and `stands_first`.
use Rattle.std.proofs.Common.{arith, rules}
use Rattle.std.proofs.lemmas.Grind.{common_steps}
use Rattle.nms_lines.proofs.ReadFacts.{begins_first, stands_first}
use Rattle.nms_lines.proofs.record_reading.open_records.Goals as goal

pub returns-clause-reads : goal.returns-clause-reads
returns-clause-reads g c = record {
  plain = search rules;
  ready = search rules;
  flexible = search rules;
  config = search rules;
  stands = stands_first {R = g.row.R.Denot} g.R.Read.remaining c.from_reader.result (g.R.Read.remaining c.args.source)
      c.from_reader.ensures.source c.from_reader.ensures.state;
  begins = begins_first (g.R.Read.remaining c.args.source);
}

-- ---- goals that `grind` closes; the search that is tried before it takes longer

pub returns-clause-left : goal.returns-clause-left
returns-clause-left g c = grind (arith, common_steps)
