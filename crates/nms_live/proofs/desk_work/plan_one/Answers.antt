-- `plan_one`: the plan is made on the board of the version that the desk was shown, by `is_best`.
use Rattle.std.proofs.Common.{ap, ◌∙◌}
use Rattle.nms_versions.specs.Taped.{Knowing}
use Rattle.nms_live.proofs.PlanFacts.{Made, answers_its_order, is_best, names_its_version}
use Rattle.nms_live.proofs.desk_work.plan_one.Given.{Over}
use Rattle.nms_live.proofs.desk_work.plan_one.Goals.{In-Ok}
use Rattle.nms_live.proofs.desk_work.plan_one.Goals as goal

made : (g : Over) (c : In-Ok g)
    → Made c.args.planning.now.setup.now c.args.wanted.now c.in-Ok.ensures.shown.0 c.in-Ok.ensures.shown.1 c.look_with.new.onlooker.planner
made g c =
    let shown = c.in-Ok.ensures.shown in
    record {
      stands = shown.2.stands;
      sizes = shown.2.sizes ∙ c.requires.sizes;
      is_planned = shown.3.planned;
    }

pub returns-clause-order : goal.returns-clause-order
returns-clause-order g c = answers_its_order _ _ _ _ _ (made g (goal.at.returns-clause-order g c).In-Ok)

pub returns-clause-best : goal.returns-clause-best
returns-clause-best g c =
    let shown = c.in-Ok.ensures.shown in
    let is = made g (goal.at.returns-clause-best g c).In-Ok in (
      shown.1,
      ap (λ (d : Knowing). d.known) shown.2.knows,
      shown.2.begins,
      names_its_version _ _ _ _ _ is,
      is_best _ _ _ _ _ is,
    )
