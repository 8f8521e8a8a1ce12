-- `serve_tell`: all that it promises, by `asks_one` and `no_want`.
use Rattle.std.proofs.Common.{Ok, false, refl}
use Rattle.nms_flow.specs.declared.reply.Reply.TheVariants as reply
use Rattle.nms_flow.specs.declared.step.Step.TheVariants as step
use Rattle.nms_scripts.proofs.ScriptFacts.{asks_one, no_want}
use Rattle.nms_scripts.proofs.script_record.serve_tell.Goals as goal

pub returns : goal.returns
returns c = asks_one c.args.number (step.Tell c.args.desk) (Ok (reply.Told c.args.desk c.published.result)) c.args.flow.now c.args.flow.now
    c.args.out.now.items c.tell_told.new.out.items false (c.published.ensures.told c.args.desk)
    (no_want (reply.Told c.args.desk c.published.result)) c.in_ok-tell_told.ensures refl
