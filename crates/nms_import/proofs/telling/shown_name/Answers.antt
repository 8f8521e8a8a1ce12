-- `shown_name`: a symbol's name is printable ASCII.
use Rattle.nms_import.proofs.ShowFacts.{symbol_shown}
use Rattle.nms_import.proofs.telling.shown_name.Goals as goal

pub returns-then-has_sym : goal.returns-then-has_sym
returns-then-has_sym c = symbol_shown c.sym_name.result.now c.sym_name.ensures.form
