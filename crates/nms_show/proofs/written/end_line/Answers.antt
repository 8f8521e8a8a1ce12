-- `end_line`: the end of a line is safe.
use Rattle.nms_show.specs.Safe.{line_end, nothing}
use Rattle.nms_show.proofs.written.end_line.Goals as goal

pub write_safe-requires : goal.write_safe-requires
write_safe-requires g c = record { safe = line_end nothing }
