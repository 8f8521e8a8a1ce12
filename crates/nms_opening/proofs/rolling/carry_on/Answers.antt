-- `carry_on`: the board after the change shows each symbol as the board that is there then, by `go_over`.
use Rattle.std.proofs.Common.{◌≡◌, ◌<◌, ap, arith, length, subst, sym, ◌∙◌, ◌+◌}
use Rattle.nms_quote.specs.Roster.{Sizes}
use Rattle.nms_board.specs.Cells.{Board}
use Rattle.nms_opening.specs.Alike.{ShowAlike}
use Rattle.nms_opening.proofs.rolling.carry_on.Goals as goal

pub apply_both-requires-clause-board_room : goal.apply_both-requires-clause-board_room
apply_both-requires-clause-board_room c =
    omega (arith, c.requires.room.board_few, c.requires.within, c.stands_for_a_tape.ensures.shape.syms)

pub overflow_add-carried : goal.overflow_add-carried
overflow_add-carried c = omega (arith, c.requires.within, c.stands_for_a_tape.ensures.shape.syms)

pub returns-clause-counted : goal.returns-clause-counted
returns-clause-counted c =
    let one_more : c.apply_both.new.board.applied ≡ c.args.board.now.applied + 1 =
    ap (λ (b : Board). b.applied) c.apply_both.ensures.after in
    omega (arith, c.go_over.ensures.counted, one_more)

pub returns-clause-roster : goal.returns-clause-roster
returns-clause-roster c = c.go_over.ensures.roster ∙ ap (λ (b : Board). b.sizes) c.apply_both.ensures.after

pub returns-clause-alike : goal.returns-clause-alike
returns-clause-alike c = λ symbol in_syms.
    let sizes : c.apply_both.new.board.sizes ≡ c.args.board.now.sizes = ap (λ (b : Board). b.sizes) c.apply_both.ensures.after in
    subst (λ (b : Board). ShowAlike b c.go_over.new.board symbol) c.apply_both.ensures.after
    (c.go_over.ensures.alike symbol (subst (λ (s : Sizes). symbol < length s.lots) (sym sizes) in_syms))
