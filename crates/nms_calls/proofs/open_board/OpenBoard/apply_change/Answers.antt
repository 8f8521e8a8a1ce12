-- `apply_change`: the settings stay, and the board has taken the change. Far from where it goes over, a tape with the change
-- shows the same.
use Rattle.std.proofs.Common.{◌≡◌, true, refl, subst, sym}
use Rattle.nms_quote.specs.Roster.{holds}
use Rattle.nms_calls.specs.Opened.{GrewBy, HasApplied, Opened, sizes_on}
use Rattle.nms_calls.proofs.OpenedLemmas.{grew_by}
use Rattle.nms_calls.proofs.open_board.OpenBoard.apply_change.Goals as goal

pub returns-clause-applied : goal.returns-clause-applied
returns-clause-applied c =
    let then : Opened =
    record { settings = c.self.inside.setup; board = c.apply.new.self.board; before = c.apply.new.self.before } in
    subst (λ (old : Opened). HasApplied old then c.args.change) c.self.view_is (record { settings = refl; taken = c.apply.ensures })

pub returns-clause-stands : goal.returns-clause-stands
returns-clause-stands c =
    let before : Opened =
    record { settings = c.self.inside.setup; board = c.self.inside.rolling.board; before = c.self.inside.rolling.before } in
    let then : Opened =
    record { settings = c.self.inside.setup; board = c.apply.new.self.board; before = c.apply.new.self.before } in
    let held : holds (sizes_on before) c.args.change ≡ true =
    subst (λ (old : Opened). holds (sizes_on old) c.args.change ≡ true) (sym c.self.view_is) c.requires in
    subst (λ (old : Opened). GrewBy c.args.change old then) c.self.view_is
    (grew_by before then c.args.change c.self.invariant.0 held (record { settings = refl; taken = c.apply.ensures }))
