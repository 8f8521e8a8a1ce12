-- `open_bare_records`: clause `left`, by `left_headed`.
use Rattle.std.proofs.Common.{rules}
use Rattle.nms_lines.proofs.LeftFacts.{left_headed}
use Rattle.nms_lines.proofs.record_reading.open_bare_records.Goals as goal

pub returns-in-Ok : goal.returns-in-Ok
returns-in-Ok g c = record {
  left = λ bytes records known all.
      left_headed {R = g.row.R.Denot} g.R.Read.remaining c.from_reader-reader.result c.set_byte_headers.new.self bytes records
      (search rules) (search rules) (search rules) (search rules) (search rules) (rw known at c.from_reader-reader.ensures.source)
      (search rules) all;
}
