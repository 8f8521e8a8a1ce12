-- `Boards::view`: clauses `shows` and `parts`, by `seen_stands` and `seen_parts`.
use Rattle.std.proofs.Common.{◌∙◌}
use Rattle.nms_board.proofs.BoardLemmas.{seen_stands}
use Rattle.nms_board.proofs.PartLemmas.{seen_parts}
use Rattle.nms_board.proofs.board.Boards.view.Goals as goal

pub returns-clause-shows : goal.returns-clause-shows
returns-clause-shows c = λ tape stands. c.fill.ensures ∙ seen_stands c.args.self.now tape c.args.sym stands

pub returns-clause-parts : goal.returns-clause-parts
returns-clause-parts c = seen_parts c.args.self.now c.args.sym _ c.fill.ensures
