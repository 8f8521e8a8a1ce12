-- `write_symbol`: nothing is written of a symbol that is not asked for.
use Rattle.nms_show.specs.Safe.{IsSafe, nothing}
use Rattle.nms_show.proofs.Offered.{adds_none}
use Rattle.nms_drawing.proofs.boards_lines.write_symbol.Goals as goal

pub returns-then-not-is_asked : goal.returns-then-not-is_asked
returns-then-not-is_asked g c = adds_none IsSafe _ nothing
