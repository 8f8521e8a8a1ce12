-- `go_over`: the board that takes over has every symbol, so it shows each one alike.
use Rattle.std.proofs.Common.{◌≤◌, arith, length, ltb-false, subst, sym}
use Rattle.nms_board.specs.Cells.{Board}
use Rattle.nms_opening.specs.Alike.{ShowAlike}
use Rattle.nms_opening.proofs.rolling.go_over.Goals as goal

pub returns-clause-alike : goal.returns-clause-alike
returns-clause-alike c = λ symbol in_syms.
    let board = c.args.board.now in
    let all : length board.sizes.lots ≤ c.args.carried =
    ltb-false c.args.carried (length board.sizes.lots) (sym c.if-has_place.ensures) in
    subst (λ (then : Board). ShowAlike board then symbol) (sym c.swap.ensures.x_after)
    (c.requires.carrying.alike symbol in_syms (omega (arith, in_syms, all)))
