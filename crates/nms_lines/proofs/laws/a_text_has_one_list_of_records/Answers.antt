-- `a_text_has_one_list_of_records`: all that it promises, by `one_list`.
use Rattle.nms_lines.proofs.OneReading.{one_list}
use Rattle.nms_lines.proofs.laws.a_text_has_one_list_of_records.Goals as goal

pub returns : goal.returns
returns c = one_list
