-- `cuts_are_in_range`: what holds in each turn of its loop.
use Rattle.std.proofs.Common.{take}
use Rattle.std.specs.Prelude.{All}
use Rattle.nms_lines.specs.PlanLaws.{IsPriceInRange}
use Rattle.nms_file_answers.proofs.laws.cuts_are_in_range.Given as goal

abbrev pub invariant-loop-cut : goal.invariant-loop-cut
invariant-loop-cut l = All (λ cut. IsPriceInRange cut.price) (take l.cut-index l.cuts)
