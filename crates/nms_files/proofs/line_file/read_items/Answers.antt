-- `read_items`: all that it promises, by what `take_lines` makes of no lines.
use Rattle.std.proofs.Common.{[]}
use Rattle.nms_files.proofs.line_file.read_items.Goals as goal

pub returns-in-Ok : goal.returns-in-Ok
returns-in-Ok g c = c.in-Ok.ensures (g.R.Read.remaining c.args.source) [] c.open_records-reader.ensures.reads
    (rw c.new.ensures.items c.requires)
