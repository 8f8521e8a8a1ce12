-- `resume`: the senders were just opened, by `opened_fresh`.
use Rattle.nms_serving.proofs.OpeningFacts.{opened_fresh}
use Rattle.nms_serving.proofs.serving.resume.Goals as goal

pub serve_board-requires-clause-fresh : goal.serve_board-requires-clause-fresh
serve_board-requires-clause-fresh g c = λ loans lives.
    opened_fresh c.in-Ok.taker.lane c.feeds.result c.in-Ok.senders.items c.in-Ok.ensures.senders
