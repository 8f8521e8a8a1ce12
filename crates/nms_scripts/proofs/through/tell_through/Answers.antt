-- `tell_through`: the call of `tell_through_rows`, by `through_parts`.
use Rattle.std.proofs.Common.{arith, length, ◌∙◌}
use Rattle.std.proofs.lemmas.Grind.{common_steps}
use Rattle.nms_scripts.proofs.ThroughFacts.{through_parts}
use Rattle.nms_scripts.proofs.through.tell_through.Goals as goal

pub tell_through_rows-requires : goal.tell_through_rows-requires
tell_through_rows-requires c =
    through_parts (length c.args.roster.now.parts) c.args.view.now c.args.price c.as_slice.result.now
    (c.as_slice.ensures.value ∙ c.traded_through-quotations.ensures) c.requires.parts

-- ---- goals that `grind` closes; the search that is tried before it takes longer

pub returns : goal.returns
returns c = grind (arith, common_steps)
