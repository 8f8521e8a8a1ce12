-- `answer_latest`: what holds in each turn of its loop.
use Rattle.std.proofs.Common.{◌≡◌}
use Rattle.nms_quote.specs.Roster.{sizes_of}
use Rattle.nms_answers.specs.Epochs.{GoesOver}
use Rattle.nms_answers.proofs.epoch_request.answer_latest.Given as goal

-- the client is in the same epoch, or has gone over
abbrev pub invariant-loop : goal.invariant-loop
invariant-loop g l = record {
  over : GoesOver l.fn.desk l.desk;
  sizes : l.desk.desk.sizes ≡ sizes_of l.setup.roster;
}
