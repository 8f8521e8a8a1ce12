-- `serve_best`: all that it promises and the call of `tell_best`, by `shown_parts`, `best_part` and
-- `shows_best`.
use Rattle.std.proofs.Common.{arith, ◌<◌, subst, sym, refl}
use Rattle.std.proofs.lemmas.Grind.{common_steps}
use Rattle.std.specs.Prelude.{All}
use Rattle.nms_quote.specs.Roster.{Sizes}
use Rattle.nms_quote.specs.declared.side_quote.Side.TheVariants.{Bid, Offer}
use Rattle.nms_board.specs.View.{rows_on}
use Rattle.nms_board.specs.Shown.{seen_on}
use Rattle.nms_board.specs.declared.row.Row.{Row}
use Rattle.nms_board.proofs.Offered.{shown_parts}
use Rattle.nms_nbbo.proofs.Offered.{best_part}
use Rattle.nms_scripts.proofs.ScriptFacts.{shows_best}
use Rattle.nms_scripts.proofs.script_record.serve_best.Goals as goal

pub tell_best-requires-clause-bid : goal.tell_best-requires-clause-bid
tell_best-requires-clause-bid c = best_part Bid _ c.best-best.result.bid _ c.best-best.ensures.bid
    (subst (λ (s : Sizes). All (λ (row : Row). row.part < s.parts) (rows_on Bid (seen_on c.args.flow.now.board c.args.sym))) c.requires.room
    (shown_parts c.args.flow.now.board c.args.sym Bid))

pub tell_best-requires-clause-offer : goal.tell_best-requires-clause-offer
tell_best-requires-clause-offer c = best_part Offer _ c.best-best.result.offer _ c.best-best.ensures.offer
    (subst (λ (s : Sizes). All (λ (row : Row). row.part < s.parts) (rows_on Offer (seen_on c.args.flow.now.board c.args.sym)))
    c.requires.room (shown_parts c.args.flow.now.board c.args.sym Offer))

pub returns : goal.returns
returns c = shows_best c.args.roster.now c.args.flow.now c.args.flow.now c.args.desk c.args.sym (seen_on c.args.flow.now.board c.args.sym)
    c.best-best.result.bid c.best-best.result.offer _ _
    (c.best-best.ensures.went c.args.desk) c.best-best.ensures.bid c.best-best.ensures.offer
    (c.in_ok-tell_best.ensures (seen_on c.args.flow.now.board c.args.sym) refl (sym c.published.ensures.count))

-- ---- goals that `grind` closes; the search that is tried before it takes longer

pub best-best-requires : goal.best-best-requires
best-best-requires c = grind (arith, common_steps)
