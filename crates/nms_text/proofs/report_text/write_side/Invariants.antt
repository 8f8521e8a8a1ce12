-- `write_side`: what holds in each turn of its loop.
use Rattle.std.proofs.Common.{take}
use Rattle.std.specs.Io.KnownBytes.{Appends}
use Rattle.std.specs.List.{flat_map}
use Rattle.nms_text.specs.Report.{row_line}
use Rattle.nms_text.proofs.report_text.write_side.Given as goal

-- the rows so far were written
abbrev pub invariant-loop-row : goal.invariant-loop-row
invariant-loop-row g l =
    Appends (g.W.Write.contents l.fn.writer) (g.W.Write.contents l.writer)
    (flat_map (row_line l.roster l.side l.best) (take l.row-index l.row-items))
