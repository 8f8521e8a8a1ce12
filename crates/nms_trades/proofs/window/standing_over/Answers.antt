-- `standing_over`: by `standing_by`, since what is seen of each version is in rank order.
use Rattle.std.proofs.Common.{◌≡◌, ◌∙◌}
use Rattle.nms_quote.specs.Tape.{version}
use Rattle.nms_trades.specs.Around.{standing_of}
use Rattle.nms_trades.specs.Bests.{best_at}
use Rattle.nms_trades.specs.Found.{standing_in}
use Rattle.nms_trades.proofs.BestFacts.{seen_in_order}
use Rattle.nms_trades.proofs.StandingFacts.{standing_by}
use Rattle.nms_trades.proofs.window.standing_over.Goals as goal

pub returns : goal.returns
returns c = λ sizes tape upto is within.
    let execution = c.args.execution.now in
    let all = best_at sizes tape execution.sym in
    let by : standing_of c.any_version-some_through.result c.any_version-some_clean.result ≡ standing_in sizes tape execution =
    rw (c.any_version-some_through.ensures all upto is within, c.any_version-some_clean.ensures all upto is within)
    (standing_by sizes tape execution.sym execution.millionths execution.first execution.last
    (λ n. seen_in_order sizes (version n tape) execution.sym
    (λ side. c.rows_have_one_rank_order.ensures.in_order sizes (version n tape) execution.sym side))) in
    c.of.ensures ∙ by
