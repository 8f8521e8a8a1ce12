-- `take_lines`: what holds in each turn of its loop.
use Rattle.std.proofs.Common.{ℕ, List, Option}
use Rattle.nms_lines.specs.Layout.{Record}
use Rattle.nms_lines.specs.Records.{ReadsFrom}
use Rattle.nms_files.specs.LineFile.{HaveCome}
use Rattle.nms_files.proofs.line_file.take_lines.Given as goal

-- this is the result of the lines read so far
abbrev pub invariant-loop : goal.invariant-loop
invariant-loop g l = (bytes : Option (List ℕ)) (seen : List Record) → ReadsFrom g.R.Read.remaining l.fn.reader bytes seen
    → HaveCome (g.T.FileItem.are_taken l.setup) (g.T.FileItem.is_refused l.setup) seen l.fn.so_far.items.items l.fn.so_far.refused
    → (records : List Record) × ReadsFrom g.R.Read.remaining l.reader bytes records
    × HaveCome (g.T.FileItem.are_taken l.setup) (g.T.FileItem.is_refused l.setup) records l.so_far.items.items l.so_far.refused
