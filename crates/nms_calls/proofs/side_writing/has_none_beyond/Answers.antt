-- `has_none_beyond`: if the best row is not beyond the price, none is, by `none_through`.
use Rattle.std.proofs.Common.{Option, List, sym, ◌∙◌, subst}
use Rattle.std.proofs.lemmas.Bool.{not-true}
use Rattle.nms_board.specs.Shown.{rows_held}
use Rattle.nms_board.specs.declared.row.Row.{Row}
use Rattle.nms_nbbo.specs.Best.{IsBestOf}
use Rattle.nms_calls.proofs.ThroughLemmas.{none_through}
use Rattle.nms_calls.proofs.side_writing.has_none_beyond.Goals as goal

pub returns-in-Some : goal.returns-in-Some
returns-in-Some c = λ none.
    let rows : List Row = rows_held c.args.board.now c.args.sym c.args.side in
    let best = subst (λ (best : Option Row). IsBestOf c.args.side rows best) c.in-Some.is c.best_on.ensures.best in
    none_through c.args.side c.args.millionths rows c.in-Some.best best (sym c.is_beyond.ensures ∙ not-true c.is_beyond.result none)
