-- `Flow::step`: clause `run`, by `goes_on`.
use Rattle.nms_flow.proofs.RunLemmas.{goes_on}
use Rattle.nms_flow.proofs.flow.Flow.step.Goals as goal

pub returns-clause-run : goal.returns-clause-run
returns-clause-run c before h = goes_on _ _ before _ c.answer.ensures.went h
