-- `serve_take_all`: clause `served`, by `takes_all` and `takes_refused`.
use Rattle.std.proofs.Common.{refl, subst}
use Rattle.nms_flow.specs.declared.reply.Reply.TheVariants as reply
use Rattle.nms_flow.specs.Takes.{TakesUntil}
use Rattle.nms_scripts.proofs.ScriptFacts.{takes_all, takes_refused}
use Rattle.nms_scripts.proofs.script_record.serve_take_all.Goals as goal

pub returns-in_ok-tell_published-in-QueueEmpty-clause-served : goal.returns-in_ok-tell_published-in-QueueEmpty-clause-served
returns-in_ok-tell_published-in-QueueEmpty-clause-served c =
    takes_all c.args.number c.args.flow.now c.take_all.new.self c.publish.new.self (reply.Published c.publish.result) c.args.out.now.items
    c.tell_published.new.out.items
    (subst (λ f. TakesUntil f c.args.flow.now c.take_all.new.self) c.in-QueueEmpty.is c.take_all.ensures.run) c.publish.ensures.went
    c.in_ok-tell_published-in-QueueEmpty.ensures refl

pub returns-in_default-clause-served : goal.returns-in_default-clause-served
returns-in_default-clause-served c =
    takes_refused c.args.number c.args.flow.now c.take_all.new.self c.args.out.now.items c.refuse_step.new.out.items c.take_all.result
    c.refuse_step.result
    c.take_all.ensures.run c.in_default.not-QueueEmpty c.take_all.ensures.sends_nothing c.in_default.not-NoMemory c.refuse_step.ensures
