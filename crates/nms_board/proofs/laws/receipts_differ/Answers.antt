-- `receipts_differ`: all that it promises, by `quotations_differ`, `rows_count` and `rows_differ`.
use Rattle.nms_board.proofs.LawLemmas.{quotations_differ, rows_count, rows_differ}
use Rattle.nms_board.proofs.laws.receipts_differ.Goals as goal

pub returns : goal.returns
returns c = record { participants = quotations_differ; rows = rows_differ; within = rows_count }
