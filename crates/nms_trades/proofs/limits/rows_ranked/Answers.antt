-- `rows_ranked`: one place more at each turn.
use Rattle.std.proofs.Common.{◌++◌, ◌∙◌, [], List, Option, ℕ, ap, arith, sym}
use Rattle.std.specs.List.{cons_option}
use Rattle.nms_board.specs.Ranking.{ranked_at}
use Rattle.nms_board.specs.View.{rows_on}
use Rattle.nms_board.specs.declared.row.Row.{Row}
use Rattle.nms_trades.proofs.RankFacts.{filter_map_more}
use Rattle.nms_trades.proofs.limits.rows_ranked.Goals as goal

pub loop-at-preserved : goal.loop-at-preserved
loop-at-preserved c =
    let at_place : ℕ → Option Row = ranked_at c.args.side (rows_on c.args.side c.args.view.now) in
    record {
      items = c.push_some.ensures.items
          ∙ ap (λ (row : Option Row). c.loop-at.rows.items ++ cons_option row []) c.ranked.ensures.ranked
          ∙ ap (λ (rows : List Row). rows ++ cons_option (at_place c.loop-at.at) []) c.loop-at.invariant.items
          ∙ sym (filter_map_more at_place c.loop-at.at);
      within = omega (arith, c.push_some.ensures.within, c.loop-at.invariant.within);
    }
