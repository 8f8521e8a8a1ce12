-- `board_after`: a new board is the opening one, and it took the changes of the version.
use Rattle.std.proofs.Common.{◌∙◌, ap, take}
use Rattle.nms_quote.specs.Tape.{Tape}
use Rattle.nms_stream.specs.Tapes.{sizes_in}
use Rattle.nms_drawing.proofs.VersionFacts.{made}
use Rattle.nms_drawing.proofs.version.board_after.Goals as goal

pub returns : goal.returns
returns c =
    let tape = c.args.tape.now in
    made (sizes_in tape) tape.changes.items c.args.version c.split_at.result.0.now c.in_ok-board.board c.apply_all.new.self
    (c.split_at.ensures.front ∙ ap (λ (t : Tape). take c.args.version t) c.deref.ensures.value) c.in_ok-board.ensures.opening
    c.in_ok-board.ensures.stands c.apply_all.ensures.after c.apply_all.ensures.stands c.apply_all.ensures.sizes
