-- `read_cuts`: what holds in each turn of its loop.
use Rattle.std.proofs.Common.{◌≡◌, ◌∷◌, List, length}
use Rattle.csv.specs.Records.{fields_of}
use Rattle.nms_lines.specs.Layout.{Record}
use Rattle.nms_lines.specs.Left.{AreLeft}
use Rattle.nms_lines.proofs.PlanFacts.{CutsRead}
use Rattle.nms_lines.proofs.plan_reading.read_cuts.Given as goal

abbrev pub invariant-loop : goal.invariant-loop
invariant-loop g l = (length l.cuts.items ≡ l.counter) × ((left : List Record) → AreLeft g.R.Read.remaining l.fn.reader left
    → (more : List Record) × CutsRead (fields_of l.fn.row ∷ left) l.cuts.items (fields_of l.row ∷ more)
    × AreLeft g.R.Read.remaining l.reader more)
