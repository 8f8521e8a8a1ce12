-- `take_lines`: all that it promises and the turns of its loop.
use Rattle.std.proofs.Common.{Bool, Ok, ap, ◌++◌, ◌∷◌, []}
use Rattle.csv.specs.Records.{fields_of}
use Rattle.nms_files.proofs.line_file.take_lines.Goals as goal

pub loop-init : goal.loop-init
loop-init g c = λ bytes seen reads come. (seen, reads, come)

pub loop-preserved : goal.loop-preserved
loop-preserved g c = λ bytes seen reads come.
    let had = c.loop.invariant bytes seen reads come in
    let found = c.in-Ok-true.ensures.found bytes had.0 had.1 (ap (λ (b : Bool). Ok b) c.in-Ok-true.field-0-test) in
    (had.0 ++ fields_of c.read_next.new.row ∷ [], found, c.take_next.ensures had.0 had.2)

pub returns-in-Ok-false : goal.returns-in-Ok-false
returns-in-Ok-false g c = λ bytes seen reads come.
    let had = c.loop.invariant bytes seen reads come in
    (had.0, c.in-Ok-false.ensures.end bytes had.0 had.1 (ap (λ (b : Bool). Ok b) c.in-Ok-false.field-0-test), had.2)
