-- `reduced_numbers_say_the_view`: clause `said` by `said_again`, clause `read` by `read_so`.
use Rattle.nms_calls.proofs.ReducedSaid.{read_so, said_again}
use Rattle.nms_calls.proofs.reduced_laws.reduced_numbers_say_the_view.Goals as goal

pub returns-clause-said : goal.returns-clause-said
returns-clause-said c = said_again

pub returns-clause-read : goal.returns-clause-read
returns-clause-read c = read_so
