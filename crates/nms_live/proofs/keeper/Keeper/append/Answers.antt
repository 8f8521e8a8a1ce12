-- `Keeper::append`: the invariant of what it leaves, by `kept_with`.
use Rattle.std.proofs.Common.{arith, ◌≡◌, ap}
use Rattle.std.proofs.lemmas.Grind.{common_steps}
use Rattle.nms_versions.specs.Taped.{Taped}
use Rattle.nms_live.proofs.KeeperFacts.{kept_with}
use Rattle.nms_live.proofs.keeper.Keeper.append.Goals.{in-Ok, in-Err}
use Rattle.nms_live.proofs.keeper.Keeper.append.Goals as goal

pub invariant_of-self : goal.invariant_of-self
invariant_of-self c =
    let had = c.self.invariant.0 in
    let same : c.append.new.self.published ≡ c.self.inside.publisher.published = elim c.match-append.branch [
      | in-Ok w ↦ ap (λ (t : Taped). t.published) w.in-Ok.ensures.added
      | in-Err w ↦ ap (λ (t : Taped). t.published) w.in-Err.ensures.unchanged
    ] in (
      kept_with c.self.inside.publisher c.append.new.self c.self.inside.listed.items c.self.inside.stop c.self.inside.stop same had.stopped
          had,
      c.self.invariant.1,
    )

-- ---- goals that `grind` closes; the search that is tried before it takes longer

pub returns-clause-appended : goal.returns-clause-appended
returns-clause-appended c = grind (arith, common_steps)
