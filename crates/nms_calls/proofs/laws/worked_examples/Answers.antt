-- `worked_examples`: all that it promises.
use Rattle.std.proofs.Common.{refl}
use Rattle.nms_calls.proofs.laws.worked_examples.Goals as goal

pub returns : goal.returns
returns c = record {
  the_lines = refl;
  nothing_is_no_line = refl;
  nothing_behind_the_last_end_is_none = refl;
  an_end_alone_ends_an_empty_line = refl;
  a_return_alone_ends_no_line = refl;
  the_first_begins = refl;
  the_second_begins = refl;
  the_third_begins = refl;
  the_text_ends = refl;
  the_second_is_refused = refl;
  an_empty_line_is_refused = refl;
  both_are_applied = refl;
}
