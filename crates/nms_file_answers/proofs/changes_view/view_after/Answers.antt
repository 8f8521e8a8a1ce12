-- `view_after`: all that it promises.
use Rattle.std.proofs.Common.{◌<◌, [], subst, ◌∙◌, ap}
use Rattle.std.specs.Prelude.{All}
use Rattle.nms_quote.specs.Roster.{Sizes}
use Rattle.nms_board.specs.Cells.{Board}
use Rattle.nms_board.specs.View.{rows_on, view_of}
use Rattle.nms_board.specs.declared.row.Row.{Row}
use Rattle.nms_file_answers.proofs.changes_view.view_after.Goals as goal

pub returns : goal.returns
returns c =
    let sizes = c.apply_all.ensures.sizes ∙ ap (λ (b : Board). b.sizes) c.in_ok-board.ensures.opening in record {
      shown = c.view.ensures.shows c.args.changes.now (c.apply_all.ensures.stands [] c.in_ok-board.ensures.stands)
          ∙ ap (λ (s : Sizes). view_of s c.args.changes.now c.args.sym) sizes;
      parts = λ side. subst (λ (s : Sizes). All (λ (row : Row). row.part < s.parts) (rows_on side c.view.result)) sizes
          (c.view.ensures.parts side);
    }
