-- `a_stream_is_cut_by_epochs`: by `streams_are_cut`.
use Rattle.nms_answers.proofs.StretchFacts.{streams_are_cut}
use Rattle.nms_answers.proofs.served_laws.a_stream_is_cut_by_epochs.Goals as goal

pub returns : goal.returns
returns c = streams_are_cut
