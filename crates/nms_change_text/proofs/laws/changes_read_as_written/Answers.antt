-- `changes_read_as_written`: all that it promises, by `read_as_written`.
use Rattle.nms_change_text.proofs.ChangeRoundTrip.{read_as_written}
use Rattle.nms_change_text.proofs.laws.changes_read_as_written.Goals as goal

pub returns : goal.returns
returns c = read_as_written c.args.roster.now
    (record { parts = c.part_names_are_formed.ensures; syms = c.symbol_names_are_formed.ensures })
    (record {
      digits = c.digits_read_as_printed.ensures;
      prices = c.reads_what_it_prints.ensures;
      monies = c.reads_what_it_prints-2.ensures;
      parts = c.finds_each_name.ensures.parts;
      formed = c.part_names_are_formed.ensures;
      syms = c.finds_each_name.ensures.syms;
    })
