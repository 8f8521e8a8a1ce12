-- `a_client_is_answered_as_a_script`: by `stream_as_script`.
use Rattle.nms_answers.proofs.ScriptLemmas.{stream_as_script}
use Rattle.nms_answers.proofs.laws.a_client_is_answered_as_a_script.Goals as goal

pub returns : goal.returns
returns c = stream_as_script
