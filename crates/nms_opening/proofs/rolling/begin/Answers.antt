-- `begin`: a board with nothing carries no symbol, by `none_brought`.
use Rattle.std.proofs.Common.{ap, subst, sym, ◌∙◌}
use Rattle.nms_board.specs.Cells.{Board, opening}
use Rattle.nms_opening.specs.Rolling.{IsCarrying}
use Rattle.nms_opening.proofs.RollingFacts.{none_brought}
use Rattle.nms_opening.proofs.rolling.begin.Goals as goal

pub go_over-requires-clause-carrying : goal.go_over-requires-clause-carrying
go_over-requires-clause-carrying c =
    let board = c.args.board.now in
    subst (λ (next : Board). IsCarrying board next 0) (sym (c.clear.ensures ∙ ap opening (sym c.requires.roster)))
    (none_brought board c.stands_for_a_tape.ensures.shape.parts)
