-- `answer_routers`: after each router the desk is still one of the run's roster.
use Rattle.std.proofs.Common.{◌≡◌}
use Rattle.nms_quote.specs.Roster.{sizes_of}
use Rattle.nms_serving.proofs.routers.answer_routers.Given as goal

abbrev pub invariant-loop : goal.invariant-loop
invariant-loop g l = l.desk.desk.sizes ≡ sizes_of l.means.run.now.setup.now.roster
