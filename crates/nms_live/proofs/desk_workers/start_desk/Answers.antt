-- `start_desk`: clause `started`, by `desked_by_job`: the row at the desk's number has the desk's own orders. The job keeps what
-- the closure ensures, since its snapshots are of the same values.
use Rattle.std.proofs.Common.{arith, ap, ◌∙◌, rules}
use Rattle.std.proofs.lemmas.Grind.{common_steps}
use Rattle.nms_live.specs.Answering.{numbered, own}
use Rattle.nms_live.specs.declared.desk_work.DeskJob.{DeskJob}
use Rattle.nms_live.proofs.CrewFacts.{desked_by_job}
use Rattle.nms_live.proofs.desk_workers.start_desk.Goals as goal

pub returns : goal.returns
returns g c =
    let handle = c.in-Ok.handle in
    let kept = c.in-Ok.ensures.ok in
    let orders = own c.args.number (numbered c.args.given.now.orders.items) in
    record {
      started = λ back keeps. desked_by_job c.args.given.now.setup.now orders c.args.desk handle.promise back
          (ap (λ (j : DeskJob). j.setup.value) kept ∙ c.of.ensures)
          (search (rules, ap (λ (j : DeskJob). j.mine.value.orders.items) kept, c.of-2.ensures))
          (ap (λ (j : DeskJob). j.desk.value) kept ∙ c.of-3.ensures)
          keeps;
    }

pub spawn_with-requires-clause-keeps : goal.spawn_with-requires-clause-keeps
spawn_with-requires-clause-keeps g c = λ k lives r worked. rw (c.of.ensures, c.of-2.ensures, c.of-3.ensures) worked

-- ---- goals that `grind` closes; the search that is tried before it takes longer

pub spawn_with-requires-clause-runs : goal.spawn_with-requires-clause-runs
spawn_with-requires-clause-runs g c = grind (arith, common_steps)
