-- `apply_both`: symbols that both have stay alike; a change that the next board does not take leaves them.
use Rattle.std.proofs.Common.{subst, sym}
use Rattle.nms_board.specs.Cells.{Board, after}
use Rattle.nms_opening.specs.Rolling.{IsCarrying}
use Rattle.nms_opening.proofs.RollingFacts.{both_taken, one_taken}
use Rattle.nms_opening.proofs.rolling.apply_both.Goals as goal

pub returns-then-is_followed-clause-carrying : goal.returns-then-is_followed-clause-carrying
returns-then-is_followed-clause-carrying c =
    let board = c.args.board.now in
    let next = c.args.next.now in
    subst (λ (then : Board). IsCarrying then c.apply-then-is_followed.new.self c.args.carried) (sym c.apply.ensures.after)
    (subst (λ (then : Board). IsCarrying (after board c.args.change) then c.args.carried) (sym c.apply-then-is_followed.ensures.after)
    (both_taken board next c.args.carried c.args.change c.stands_for_a_tape.ensures c.stands_for_a_tape-2.ensures c.requires.held
    c.requires.board_room c.requires.next_room (sym c.if-is_followed.ensures) c.requires.carrying))

pub returns-else-is_followed-clause-carrying : goal.returns-else-is_followed-clause-carrying
returns-else-is_followed-clause-carrying c =
    let board = c.args.board.now in
    let next = c.args.next.now in
    subst (λ (then : Board). IsCarrying then next c.args.carried) (sym c.apply.ensures.after)
    (one_taken board next c.args.carried c.args.change c.stands_for_a_tape.ensures c.requires.held (sym c.if-is_followed.ensures)
    c.requires.carrying)
