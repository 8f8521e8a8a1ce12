-- `serve`: the senders and the desks are as `serve_board` requires, by `opened_fresh` and `opened_sizes`.
use Rattle.nms_serving.proofs.OpeningFacts.{opened_fresh, opened_sizes}
use Rattle.nms_serving.proofs.serving.serve.Goals as goal

pub serve_board-requires-clause-fresh : goal.serve_board-requires-clause-fresh
serve_board-requires-clause-fresh g c = λ loans lives.
    opened_fresh c.in-Ok.taker.lane c.feeds.result c.in-Ok.senders.items c.in-Ok.ensures.senders

pub serve_board-requires-clause-sizes : goal.serve_board-requires-clause-sizes
serve_board-requires-clause-sizes g c = λ loans lives.
    opened_sizes c.args.means.now.run.now.setup.now c.in-Ok-open_tape.publisher.opening c.in-Ok-open_tape.desks.items
    c.in-Ok-open_tape.ensures.desks
