-- `show_version`: clause `shown`, by `symbol_shown`.
use Rattle.nms_drawing.proofs.VersionFacts.{symbol_shown}
use Rattle.nms_drawing.proofs.version.show_version.Goals as goal

pub returns-in-Ok-clause-shown : goal.returns-in-Ok-clause-shown
returns-in-Ok-clause-shown g c = λ text.
    symbol_shown c.args.setup.now _ _ c.args.version c.roster.result.now c.in_ok-board.board _ _ c.args.sym c.in_ok-board.ensures.board
    c.roster.ensures (c.in-Ok.ensures.shown text)
