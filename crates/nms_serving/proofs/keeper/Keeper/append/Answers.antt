-- `append`, `full`: a change that the board does not take is refused, by `refused_by`.
use Rattle.std.proofs.Common.{◌≡◌, false, refl, rules, subst}
use Rattle.nms_board.specs.Cells.{takes}
use Rattle.nms_serving.specs.Keeping.{IsRefused, Keeping}
use Rattle.nms_serving.proofs.KeeperFacts.{refused_by}
use Rattle.nms_serving.proofs.keeper.Keeper.append.Goals as goal

pub returns-then-not-takes-clause-full : goal.returns-then-not-takes-clause-full
returns-then-not-takes-clause-full g c =
    let fields = c.self.inside in
    let change = c.args.change.now in
    let none : takes fields.board change ≡ false = search rules in
    let refused = refused_by fields.publisher fields.board change fields.sized fields.standing fields.limited
    c.tape-within.ensures.within none in
    (λ same. subst (λ (k : Keeping g.row.X.Denot g.row.Y.Denot). IsRefused k.publisher change) c.self.view_is refused, λ why. refl)
