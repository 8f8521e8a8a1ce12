-- `answer_latest`: what the desk knows when it returns.
use Rattle.std.proofs.Common.{◌∙◌, subst, sym}
use Rattle.nms_answers.specs.Epochs.{KeepsEpochs}
use Rattle.nms_answers.specs.declared.epoch_desk.EpochDesk.{EpochDesk}
use Rattle.nms_answers.proofs.EpochFacts.{stays_over}
use Rattle.nms_answers.proofs.epoch_request.answer_latest.Goals as goal

pub returns-in-Ok-clause-knows : goal.returns-in-Ok-clause-knows
returns-in-Ok-clause-knows g c =
    stays_over c.args.desk.now c.loop.desk c.answer_here.new.desk c.loop.invariant.over c.answer_here.ensures.epoch
    c.answer_here.ensures.knows

pub returns-in-Err : goal.returns-in-Err
returns-in-Err g c = record {
  answered = tt;
  sizes = c.answer_here.ensures.knows.sizes ∙ c.loop.invariant.sizes;
  knows = stays_over c.args.desk.now c.loop.desk c.answer_here.new.desk c.loop.invariant.over c.answer_here.ensures.epoch
      c.answer_here.ensures.knows;
}

pub returns-then-not-go_over-clause-knows : goal.returns-then-not-go_over-clause-knows
returns-then-not-go_over-clause-knows g c =
    subst (λ (d : EpochDesk). KeepsEpochs c.args.desk.now d) (sym (c.go_over.ensures.stays c.if-not-go_over.true))
    (stays_over c.args.desk.now c.loop.desk c.answer_here.new.desk c.loop.invariant.over c.answer_here.ensures.epoch
    c.answer_here.ensures.knows)
