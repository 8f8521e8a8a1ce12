-- `bring`: the symbol shows alike after its opening changes, and they leave the others.
use Rattle.std.proofs.Common.{◌≡◌, ℕ, ◌+◌, ◌≤◌, List, subst, sym, arith}
use Rattle.std.proofs.lemmas.Grind.{common_steps}
use Rattle.nms_quote.specs.Roster.{Sizes}
use Rattle.nms_quote.specs.declared.change.Change.{Change}
use Rattle.nms_board.specs.Cells.{Board}
use Rattle.nms_opening.specs.Opening.{OpensSymbol}
use Rattle.nms_opening.specs.Rolling.{IsCarrying}
use Rattle.nms_opening.proofs.RollingFacts.{one_brought}
use Rattle.nms_opening.proofs.rolling.bring.Goals as goal

pub returns-clause-carrying : goal.returns-clause-carrying
returns-clause-carrying c =
    let board = c.args.board.now in
    let next = c.args.next.now in
    let narrow : next.sizes.parts ≤ 32 =
    subst (λ (sizes : Sizes). sizes.parts ≤ 32) c.requires.carrying.roster c.stands_for_a_tape.ensures.shape.parts in
    let at : c.unwrap.result ≡ c.args.carried = grind (arith, common_steps) in
    let opens : OpensSymbol board c.args.carried c.as_slice.result.now =
    subst (λ (place : ℕ). OpensSymbol board place c.as_slice.result.now) at
    (subst (λ (changes : List Change). OpensSymbol board c.unwrap.result changes) (sym c.as_slice.ensures.changes)
    c.opening_of-changes.ensures) in
    subst (λ (then : Board). IsCarrying board then (c.args.carried + 1)) (sym c.apply_all.ensures.after)
    (one_brought board next c.args.carried c.as_slice.result.now narrow c.requires.within opens c.requires.carrying)
