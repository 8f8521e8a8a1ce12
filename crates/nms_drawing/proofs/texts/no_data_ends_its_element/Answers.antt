-- `no_data_ends_its_element`: by `no_less`.
use Rattle.nms_drawing.proofs.TextLemmas.{no_less}
use Rattle.nms_drawing.proofs.texts.no_data_ends_its_element.Goals as goal

pub returns : goal.returns
returns c = no_less
