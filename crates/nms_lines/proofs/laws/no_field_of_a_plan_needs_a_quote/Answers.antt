-- `no_field_of_a_plan_needs_a_quote`: all that it promises, by `one_text`.
use Rattle.nms_lines.proofs.OneText.{one_text}
use Rattle.nms_lines.proofs.laws.no_field_of_a_plan_needs_a_quote.Goals as goal

pub returns : goal.returns
returns c = one_text c.args.roster.now (record { parts = c.part_names_are_formed.ensures; syms = c.symbol_names_are_formed.ensures })
