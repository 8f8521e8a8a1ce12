-- `each_answer_is_the_best_of_its_version`: the law, by `best_of_versions`.
use Rattle.std.proofs.Common.{map}
use Rattle.nms_live.proofs.HeadlineLemmas.{best_of_versions}
use Rattle.nms_live.proofs.laws.each_answer_is_the_best_of_its_version.Goals as goal

pub returns : goal.returns
returns c =
    best_of_versions c.args.setup.now (map (λ text. text.items) c.args.feeds.now) c.args.orders.now c.args.live.now
    (record {
      once = c.one_best_row.ensures;
      some = c.some_row_is_best.ensures.some;
      none = c.some_row_is_best.ensures.none;
      rows = c.quotations_stand_by_participant.ensures;
      through = c.a_lawful_plan_never_trades_through.ensures;
    }) c.requires
