-- `serve_line`: what is answered to each kind of line.
use Rattle.std.proofs.Common.{arith}
use Rattle.std.proofs.lemmas.Grind.{common_steps}
use Rattle.nms_scripts.proofs.script_record.serve_line.Goals as goal

pub returns-in-Change : goal.returns-in-Change
returns-in-Change c = record {
  served = rw c.in-Change.is (rw c.roster.ensures at c.serve_change.ensures.served);
  room = c.serve_change.ensures.room;
}

pub returns-in-TakeOne : goal.returns-in-TakeOne
returns-in-TakeOne c = record { served = rw c.in-TakeOne.is c.serve_take.ensures.served; room = c.serve_take.ensures.room }

pub returns-in-TakeAll : goal.returns-in-TakeAll
returns-in-TakeAll c = record { served = rw c.in-TakeAll.is c.serve_take_all.ensures.served; room = c.serve_take_all.ensures.room }

pub returns-in-Publish : goal.returns-in-Publish
returns-in-Publish c = record { served = rw c.in-Publish.is c.serve_publish.ensures.served; room = c.serve_publish.ensures.room }

pub returns-in-Tell-clause-served : goal.returns-in-Tell-clause-served
returns-in-Tell-clause-served c = rw c.in-Tell.is c.serve_tell.ensures

pub returns-in-Best-clause-served : goal.returns-in-Best-clause-served
returns-in-Best-clause-served c = rw c.in-Best.is (rw c.roster-in-Best.ensures at c.serve_best.ensures)

pub returns-in-Through-clause-served : goal.returns-in-Through-clause-served
returns-in-Through-clause-served c = rw c.in-Through.is (rw c.roster-in-Through.ensures at c.serve_through.ensures)

pub returns-in-Sweep-clause-served : goal.returns-in-Sweep-clause-served
returns-in-Sweep-clause-served c = rw c.in-Sweep.is c.serve_sweep.ensures

-- ---- goals that `grind` closes; the search that is tried before it takes longer

pub serve_through-requires-clause-sym : goal.serve_through-requires-clause-sym
serve_through-requires-clause-sym c = grind (arith, common_steps)

pub serve_sweep-requires-clause-sym : goal.serve_sweep-requires-clause-sym
serve_sweep-requires-clause-sym c = grind (arith, common_steps)

pub serve_best-requires-clause-sym : goal.serve_best-requires-clause-sym
serve_best-requires-clause-sym c = grind (arith, common_steps)
