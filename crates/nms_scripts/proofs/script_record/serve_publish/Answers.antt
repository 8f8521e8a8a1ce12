-- `serve_publish`: clause `served`, by `asks_one` and `no_want`.
use Rattle.std.proofs.Common.{Ok, false, refl}
use Rattle.nms_flow.specs.declared.reply.Reply.TheVariants as reply
use Rattle.nms_flow.specs.declared.step.Step.TheVariants as step
use Rattle.nms_scripts.proofs.ScriptFacts.{asks_one, no_want}
use Rattle.nms_scripts.proofs.script_record.serve_publish.Goals as goal

pub returns-clause-served : goal.returns-clause-served
returns-clause-served c = asks_one c.args.number step.Publish (Ok (reply.Published c.publish.result)) c.args.flow.now c.publish.new.self
    c.args.out.now.items c.tell_published.new.out.items false c.publish.ensures.went (no_want (reply.Published c.publish.result))
    c.in_ok-tell_published.ensures refl
