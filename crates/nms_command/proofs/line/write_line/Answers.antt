-- `write_line`: clause `part`, by `part_more`, `whole_kept`, `at_failure`, `longer`, `same_all` and
-- `same_part`.
use Rattle.std.proofs.Common.{arith, ◌++◌, ◌∷◌, [], ℕ, List, Option}
use Rattle.std.proofs.lemmas.Grind.{common_steps}
use Rattle.std.specs.Io.KnownBytes.{Appends}
use Rattle.nms_lines.specs.Written.{AppendsPart}
use Rattle.nms_lines.proofs.Offered.{part_more, whole_kept}
use Rattle.nms_command.proofs.PartFacts.{at_failure, longer, same_all, same_part}
use Rattle.nms_command.proofs.line.write_line.Goals as goal

-- the clause `part`: what was written before the piece that failed, and a prefix of that
pub returns-in_err-write_text-clause-part : goal.returns-in_err-write_text-clause-part
returns-in_err-write_text-clause-part g c =
    let old : Option (List ℕ) = g.W.Write.contents c.args.writer.now in
    let now : Option (List ℕ) = g.W.Write.contents c.write_text.new.writer in
    at_failure c.from_residual.result
    (longer old now c.args.head.now (c.args.code.now ++ 10 ∷ [])
    (same_part old now c.as_bytes.result.now c.args.head.now c.as_bytes.ensures.value c.in_err-write_text.ensures.part))

pub returns-in_err-write_text-2-clause-part : goal.returns-in_err-write_text-2-clause-part
returns-in_err-write_text-2-clause-part g c =
    let old : Option (List ℕ) = g.W.Write.contents c.args.writer.now in
    let one : Option (List ℕ) = g.W.Write.contents c.write_text.new.writer in
    let two : Option (List ℕ) = g.W.Write.contents c.write_text-2.new.writer in
    let head : Appends old one c.args.head.now =
    same_all old one c.as_bytes.result.now c.args.head.now c.as_bytes.ensures.value c.in_ok-write_text.ensures.written in
    at_failure c.from_residual-in_err-write_text-2.result
    (part_more old one two c.args.head.now (c.args.code.now ++ 10 ∷ []) head
    (longer one two c.args.code.now (10 ∷ [])
    (same_part one two c.as_bytes-2.result.now c.args.code.now c.as_bytes-2.ensures.value c.in_err-write_text-2.ensures.part)))

pub returns-in_err-write_text-3-clause-part : goal.returns-in_err-write_text-3-clause-part
returns-in_err-write_text-3-clause-part g c =
    let old : Option (List ℕ) = g.W.Write.contents c.args.writer.now in
    let one : Option (List ℕ) = g.W.Write.contents c.write_text.new.writer in
    let two : Option (List ℕ) = g.W.Write.contents c.write_text-2.new.writer in
    let three : Option (List ℕ) = g.W.Write.contents c.write_text-3.new.writer in
    let head : Appends old one c.args.head.now =
    same_all old one c.as_bytes.result.now c.args.head.now c.as_bytes.ensures.value c.in_ok-write_text.ensures.written in
    let code : Appends one two c.args.code.now =
    same_all one two c.as_bytes-2.result.now c.args.code.now c.as_bytes-2.ensures.value c.in_ok-write_text-2.ensures.written in
    let cut : AppendsPart two three (10 ∷ []) = c.in_err-write_text-3.ensures.part in
    at_failure c.from_residual-in_err-write_text-3.result
    (part_more old one three c.args.head.now (c.args.code.now ++ 10 ∷ []) head (part_more one two three c.args.code.now (10 ∷ []) code cut))

pub returns-clause-part : goal.returns-clause-part
returns-clause-part g c =
    let old : Option (List ℕ) = g.W.Write.contents c.args.writer.now in
    let one : Option (List ℕ) = g.W.Write.contents c.write_text.new.writer in
    let two : Option (List ℕ) = g.W.Write.contents c.write_text-2.new.writer in
    let three : Option (List ℕ) = g.W.Write.contents c.write_text-3.new.writer in
    let four : Option (List ℕ) = g.W.Write.contents c.flush.new.self in
    let head : Appends old one c.args.head.now =
    same_all old one c.as_bytes.result.now c.args.head.now c.as_bytes.ensures.value c.in_ok-write_text.ensures.written in
    let code : Appends one two c.args.code.now =
    same_all one two c.as_bytes-2.result.now c.args.code.now c.as_bytes-2.ensures.value c.in_ok-write_text-2.ensures.written in
    let end : Appends two three (10 ∷ []) = c.in_ok-write_text-3.ensures.written in
    at_failure c.flush.result
    (part_more old one four c.args.head.now (c.args.code.now ++ 10 ∷ []) head
    (part_more one two four c.args.code.now (10 ∷ []) code (whole_kept two three four (10 ∷ []) end c.flush.ensures.bytes)))

pub returns-clause-written : goal.returns-clause-written
returns-clause-written g c = grind (arith, common_steps)

-- ---- goals that `grind` closes; the search that is tried before it takes longer

pub returns-in_err-write_text-2-clause-written : goal.returns-in_err-write_text-2-clause-written
returns-in_err-write_text-2-clause-written g c = grind (arith, common_steps)

pub returns-in_err-write_text-clause-written : goal.returns-in_err-write_text-clause-written
returns-in_err-write_text-clause-written g c = grind (arith, common_steps)
