-- `write_counts`: if the texts are printable, what was written so far is safe.
use Rattle.std.proofs.Common.{◌≡◌, true}
use Rattle.std.specs.List.{list_all}
use Rattle.nms_show.specs.Plain.{is_plain}
use Rattle.nms_show.specs.Safe.{IsSafe}
use Rattle.nms_show.specs.Written.{Adds}
use Rattle.nms_import.proofs.telling.write_counts.Given as goal

abbrev pub invariant-loop-count : goal.invariant-loop-count
invariant-loop-count g l =
    list_all (λ count. is_plain count.1.now) l.fn.counts ≡ true → Adds IsSafe (g.W.Write.contents l.fn.out) (g.W.Write.contents l.out)
