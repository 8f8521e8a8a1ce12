-- `read_legs`: what holds in each turn of its loop: `counted`, `there` and `read`.
use Rattle.std.proofs.Common.{◌≡◌, ◌<◌, All, List, length}
use Rattle.nms_lines.specs.Layout.{Record}
use Rattle.nms_lines.specs.Left.{AreLeft}
use Rattle.nms_lines.proofs.PlanFacts.{LegsRead}
use Rattle.nms_lines.proofs.plan_reading.read_legs.Given as goal

abbrev pub invariant-loop : goal.invariant-loop
invariant-loop g l = record {
  counted : length l.legs.items ≡ l.counter;
  there : All (λ leg. leg.part < length l.roster.parts) l.legs.items;
  read : (left : List Record) → AreLeft g.R.Read.remaining l.fn.reader left
      → (more : List Record) × LegsRead l.roster left l.legs.items more × AreLeft g.R.Read.remaining l.reader more;
}
