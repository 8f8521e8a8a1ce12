-- `kind_of_quoted`: by `first_kind`.
use Rattle.std.proofs.Common.{◌≡◌, ◌∙◌, ap, refl, Bool, [], Ok}
use Rattle.csv.specs.Records.{fields_of}
use Rattle.nms_verdicts.specs.Pieces.{trimmed}
use Rattle.nms_verdicts.proofs.LineFacts.{first_kind}
use Rattle.nms_verdicts.proofs.pieces.kind_of_quoted.Goals as goal

pub returns-in-Ok-true : goal.returns-in-Ok-true
returns-in-Ok-true c = λ records all.
    let left = c.open_records-reader.ensures.left c.args.line.now records refl all in
    let next = c.in-Ok-true.ensures.more records left (ap (λ (found : Bool). Ok found) c.in-Ok-true.field-0-test) in
    first_kind records next.0 (fields_of c.read_next.new.row) c.trimmed.result.now c.kind_of_word.result next.1
    (c.trimmed.ensures ∙ ap trimmed c.field.ensures) c.kind_of_word.ensures

pub returns-in-Ok-false : goal.returns-in-Ok-false
returns-in-Ok-false c = λ records all.
    let left = c.open_records-reader.ensures.left c.args.line.now records refl all in
    let none : records ≡ [] = c.in-Ok-false.ensures.none records left (ap (λ (found : Bool). Ok found) c.in-Ok-false.field-0-test) in
    rw none refl
