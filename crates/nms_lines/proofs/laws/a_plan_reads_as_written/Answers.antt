-- `a_plan_reads_as_written`: all that it promises, by `reads_as_written`.
use Rattle.nms_lines.proofs.PlanRoundTrip.{reads_as_written}
use Rattle.nms_lines.proofs.laws.a_plan_reads_as_written.Goals as goal

pub returns : goal.returns
returns c = reads_as_written c.args.roster.now c.no_field_of_a_plan_needs_a_quote.ensures (record {
  digits = c.digits_read_as_printed.ensures;
  prices = c.reads_what_it_prints.ensures;
  monies = c.reads_what_it_prints-2.ensures;
  parts = c.finds_each_name.ensures.parts;
  formed = c.part_names_are_formed.ensures;
  syms = c.finds_each_name.ensures.syms;
})
