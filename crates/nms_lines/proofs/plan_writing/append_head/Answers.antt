-- `append_head`: the record of a plan, by its parts.
use Rattle.std.proofs.lemmas.Result.{on_ok_weaker}
use Rattle.nms_lines.proofs.TextFacts.{plan_head_written}
use Rattle.nms_lines.proofs.plan_writing.append_head.Goals as goal

pub returns : goal.returns
returns c = on_ok_weaker c.end_record.result
    (λ written. plan_head_written c.args.roster.now c.args.plan.now c.args.out.now.items c.push_plan.new.out.items
    c.push_named.new.out.items c.end_record.new.out.items c.in_ok-push_plan.ensures c.in_ok-push_named.ensures written)
    c.end_record.ensures
