-- `worked_examples`: all that it promises.
use Rattle.std.proofs.Common.{refl}
use Rattle.nms_answers.proofs.served_laws.worked_examples.Goals as goal

pub returns : goal.returns
returns c = record {
  the_script = refl;
  no_request = refl;
  in_its_own_order = refl;
  a_refusal_has_its_own_number = refl;
  an_answer_is_as_it_is = refl;
  a_later_epoch_has_its_line = refl;
}
