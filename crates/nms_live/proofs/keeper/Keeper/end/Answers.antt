-- `Keeper::end`: clause `published`.
use Rattle.std.proofs.Common.{arith, ◌≡◌, subst}
use Rattle.std.proofs.lemmas.Grind.{common_steps}
use Rattle.nms_versions.specs.Published.{changes}
use Rattle.nms_versions.specs.Taped.{tape_of}
use Rattle.nms_live.specs.Keeping.{Keeping, WasPublished}
use Rattle.nms_live.proofs.keeper.Keeper.end.Goals as goal

pub returns-clause-published : goal.returns-clause-published
returns-clause-published g c =
    subst (λ (k : Keeping). changes k.taped.published ≡ tape_of k.taped → WasPublished (tape_of k.taped) k.listed) c.self.view_is
    (λ whole. record {
      batches = c.self.inside.publisher.published;
      whole = whole;
      none_empty = c.tape-within.ensures.batches;
      listed_them = c.self.invariant.0.published;
    })

-- ---- goals that `grind` closes; the search that is tried before it takes longer

pub returns-clause-rising : goal.returns-clause-rising
returns-clause-rising g c = grind (arith, common_steps)

pub returns-clause-within : goal.returns-clause-within
returns-clause-within g c = grind (arith, common_steps)
