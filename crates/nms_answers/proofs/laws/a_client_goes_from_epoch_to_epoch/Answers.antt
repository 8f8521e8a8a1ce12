-- `a_client_goes_from_epoch_to_epoch`: by `serves_as_answers` and `epochs_never_fall`.
use Rattle.nms_answers.proofs.EpochFacts.{epochs_never_fall, serves_as_answers}
use Rattle.nms_answers.proofs.laws.a_client_goes_from_epoch_to_epoch.Goals as goal

pub returns-clause-answers : goal.returns-clause-answers
returns-clause-answers c = serves_as_answers

pub returns-clause-epochs : goal.returns-clause-epochs
returns-clause-epochs c = epochs_never_fall
