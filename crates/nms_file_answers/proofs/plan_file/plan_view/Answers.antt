-- `plan_view`: clause `cut`, the rest of its promise and the call of `write_plan`, by `whole_kept`,
-- `legs_parts` and `plan_cut`.
use Rattle.std.proofs.Common.{arith, rules, ◌<◌, All, Err, ap, length, refl, subst, sym}
use Rattle.std.proofs.lemmas.Grind.{common_steps}
use Rattle.nms_quote.specs.declared.side_quote.Side.{Side}
use Rattle.nms_quote.specs.Terms.{Terms}
use Rattle.nms_board.specs.View.{rows_on}
use Rattle.nms_board.specs.declared.row.Row.{Row}
use Rattle.nms_rules.specs.Usable.{contra}
use Rattle.nms_lines.proofs.Offered.{whole_kept}
use Rattle.nms_lines.specs.Named.{AreBelow}
use Rattle.nms_file_answers.proofs.LegFacts.{legs_parts}
use Rattle.nms_file_answers.proofs.PartFacts.{plan_cut}
use Rattle.nms_file_answers.proofs.plan_file.plan_view.Goals as goal

-- src/plan_file.rt: the plan's legs go to rows of the view, which are of the roster's participants
pub write_plan-requires-clause-parts : goal.write_plan-requires-clause-parts
write_plan-requires-clause-parts g c =
    let shown : (side : Side) → All (λ (row : Row). row.part < length c.roster.result.now.parts) (rows_on side c.args.view.now) =
    search rules in
    legs_parts (length c.roster.result.now.parts) (contra c.args.order.now.side) c.args.view.now c.plan-plan.result.0.legs.items
    c.plan-plan.ensures.accepted.faultless.prices shown

-- the plan's order is the one given, whose participants are of the roster
pub write_plan-requires-clause-self_help : goal.write_plan-requires-clause-self_help
write_plan-requires-clause-self_help g c =
    let named : AreBelow (length c.roster.result.now.parts) c.args.order.now.self_help = search rules in
    subst (λ (asked : Terms). AreBelow (length c.roster.result.now.parts) asked.self_help)
    (sym c.plan-plan.ensures.accepted.faultless.order) named

-- the writer failed within the text
pub returns-in-Err-WriteFault : goal.returns-in-Err-WriteFault
returns-in-Err-WriteFault g c = record {
  written = tt;
  refused = λ _. tt;
  cut = λ _. plan_cut c.args.setup.now c.args.view.now c.args.order.now _ _ c.plan-plan.result.0 c.plan-plan.result.1.items _ _
      c.fees.ensures.value c.roster.ensures
      c.plan-plan.ensures.accepted c.plan-plan.ensures.optimal (c.in-Err-WriteFault.ensures.cut (ap Err c.in-Err-WriteFault.field-0-is));
  unwritten = λ other. absurd (other refl);
}

-- and if it took the text and could not flush it
pub returns-in-Err-clause-cut : goal.returns-in-Err-clause-cut
returns-in-Err-clause-cut g c _ =
    plan_cut c.args.setup.now c.args.view.now c.args.order.now _ _ c.plan-plan.result.0 c.plan-plan.result.1.items _ _ c.fees.ensures.value
    c.roster.ensures
    c.plan-plan.ensures.accepted c.plan-plan.ensures.optimal (whole_kept _ _ _ _ c.in-Ok.ensures.written c.in-Err.ensures.bytes)

-- ---- goals that `grind` closes; the search that is tried before it takes longer

pub write_plan-requires-clause-sym : goal.write_plan-requires-clause-sym
write_plan-requires-clause-sym g c = grind (arith, common_steps)

pub unreachable-requires : goal.unreachable-requires
unreachable-requires g c = grind (arith, common_steps)

pub returns-in-Err-NoMemory-clause-cut : goal.returns-in-Err-NoMemory-clause-cut
returns-in-Err-NoMemory-clause-cut g c = grind (arith, common_steps)
