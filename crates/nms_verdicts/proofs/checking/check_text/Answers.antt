-- `check_text`: the pieces in the order of the file end the request as those by version do.
use Rattle.std.proofs.Common.{ap}
use Rattle.std.specs.Prelude.{List}
use Rattle.csv.specs.Reading.{strip_bom}
use Rattle.nms_verdicts.specs.Begun.{texts_of}
use Rattle.nms_verdicts.specs.declared.pieces.Piece.{Piece}
use Rattle.nms_verdicts.proofs.CheckFacts.{ends_alike}
use Rattle.nms_verdicts.proofs.checking.check_text.Goals as goal

pub returns-in-Ok : goal.returns-in-Ok
returns-in-Ok g c =
    let tape = c.args.tape.now in
    ends_alike tape.setup.now tape.changes.items (strip_bom c.args.text.now) (texts_of c.in-Ok.pieces.items)
    (texts_of c.deref.result.now) c.check_pieces.result (ap (λ (list : List Piece). texts_of list) c.deref.ensures.value)
    c.in-Ok.ensures.parted c.check_pieces.ensures
