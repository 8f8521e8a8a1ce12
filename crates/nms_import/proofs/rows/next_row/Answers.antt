-- `next_row`: clause `found`, by `stands_more`.
use Rattle.std.proofs.Common.{◌≡◌, true, ◌∙◌, inl}
use Rattle.csv.specs.Records.{fields_of}
use Rattle.nms_import.specs.Rows.{unread}
use Rattle.nms_import.specs.declared.row_source.RowSource.{RowSource}
use Rattle.nms_import.proofs.RowFacts.{stands_more}
use Rattle.nms_import.proofs.rows.next_row.Goals as goal

pub returns-in-Ok-clause-found : goal.returns-in-Ok-clause-found
returns-in-Ok-clause-found g c = λ config bytes seen reads found.
    let is_found : c.in-Ok.found ≡ true = cc in
    let read = rw is_found at (c.in-Ok.ensures.reads reads.plain reads.ready) in
    record {
      plain = read.3 ∙ reads.plain;
      ready = inl (c.in-Ok.ensures.ready reads.plain);
      flexible = c.in-Ok.ensures.flexible ∙ reads.flexible;
      configured = read.2 ∙ reads.configured;
      stands = stands_more {R = RowSource g.row.R.Denot} config (unread g.R.Read.remaining) c.args.reader.now
          c.read_byte_record-next.new.self bytes seen (fields_of c.read_byte_record-next.new.row) reads.configured reads.stands read;
    }
