-- `are_rows`: its clause, by `rows_found` and `rows_tested`.
use Rattle.std.proofs.Common.{◌∙◌, sym}
use Rattle.nms_board.proofs.GivenLemmas.{rows_found, rows_tested}
use Rattle.nms_board.proofs.given.are_rows.Goals as goal

pub returns : goal.returns
returns c = ((λ e. rows_found c.args.rows.now (sym c.test_rows.ensures ∙ e)), (λ are. c.test_rows.ensures ∙ rows_tested c.args.rows.now are))
