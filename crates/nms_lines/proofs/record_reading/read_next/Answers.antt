-- `read_next`: clauses `found`, `more` and `none`, by `left_more`, `left_none`, `begins_read` and
-- `stands_more`.
use Rattle.std.proofs.Common.{arith, ◌≡◌, ◌++◌, ◌∷◌, [], true, false, ◌∙◌, inl}
use Rattle.std.proofs.lemmas.Grind.{common_steps}
use Rattle.csv.specs.Records.{fields_of}
use Rattle.nms_lines.proofs.LeftFacts.{left_more, left_none}
use Rattle.nms_lines.proofs.ReadFacts.{begins_read, stands_more}
use Rattle.nms_lines.proofs.record_reading.read_next.Goals as goal

pub returns-in-Ok-clause-found : goal.returns-in-Ok-clause-found
returns-in-Ok-clause-found g c = λ bytes seen reads found.
    let is_found : c.in-Ok.found ≡ true = cc in
    let read = rw is_found at (c.in-Ok.ensures.reads reads.plain reads.ready) in
    let stands = stands_more {R = g.row.R.Denot} g.R.Read.remaining c.args.reader.now c.read_byte_record.new.self bytes seen
    (fields_of c.read_byte_record.new.row) reads.config reads.stands read in
    record {
      plain = read.3 ∙ reads.plain;
      ready = inl (c.in-Ok.ensures.ready reads.plain);
      flexible = c.in-Ok.ensures.flexible ∙ reads.flexible;
      config = read.2 ∙ reads.config;
      stands = stands;
      begins = begins_read {R = g.row.R.Denot} g.R.Read.remaining c.read_byte_record.new.self bytes
          (seen ++ fields_of c.read_byte_record.new.row ∷ []) stands;
    }

pub returns-in-Ok-clause-more : goal.returns-in-Ok-clause-more
returns-in-Ok-clause-more g c = λ left was found.
    let is_found : c.in-Ok.found ≡ true = cc found in
    let read = rw is_found at (c.in-Ok.ensures.reads was.plain was.ready) in
    left_more {R = g.row.R.Denot} g.R.Read.remaining c.args.reader.now c.read_byte_record.new.self left
    (fields_of c.read_byte_record.new.row) was read (inl (c.in-Ok.ensures.ready was.plain))

pub returns-in-Ok-clause-none : goal.returns-in-Ok-clause-none
returns-in-Ok-clause-none g c = λ left was found.
    let is_found : c.in-Ok.found ≡ false = cc found in
    let read = rw is_found at (c.in-Ok.ensures.reads was.plain was.ready) in
    left_none {R = g.row.R.Denot} g.R.Read.remaining c.args.reader.now c.read_byte_record.new.self left
    (fields_of c.read_byte_record.new.row) was read

-- ---- goals that `grind` closes; the search that is tried before it takes longer

pub returns-in-Ok-clause-end : goal.returns-in-Ok-clause-end
returns-in-Ok-clause-end g c = grind (arith, common_steps)

pub returns-in-Err-clause-more : goal.returns-in-Err-clause-more
returns-in-Err-clause-more g c = grind (arith, common_steps)

pub returns-in-Err-clause-found : goal.returns-in-Err-clause-found
returns-in-Err-clause-found g c = grind (arith, common_steps)

pub returns-in-Err-clause-end : goal.returns-in-Err-clause-end
returns-in-Err-clause-end g c = grind (arith, common_steps)

pub returns-in-Ok-clause-over : goal.returns-in-Ok-clause-over
returns-in-Ok-clause-over g c = grind (arith, common_steps)

pub returns-in-Err-clause-over : goal.returns-in-Err-clause-over
returns-in-Err-clause-over g c = grind (arith, common_steps)
