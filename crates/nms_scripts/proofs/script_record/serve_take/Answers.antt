-- `serve_take`: clause `served` and the rest of its promise, by `asks_one`, `no_want` and `refuses_one`.
use Rattle.std.proofs.Common.{Ok, false, refl}
use Rattle.nms_flow.specs.declared.reply.Reply.TheVariants as reply
use Rattle.nms_flow.specs.declared.step.Step.TheVariants as step
use Rattle.nms_scripts.proofs.ScriptFacts.{asks_one, no_want, refuses_one}
use Rattle.nms_scripts.proofs.script_record.serve_take.Goals as goal

pub returns-in_ok-tell_taken-in-Ok-clause-served : goal.returns-in_ok-tell_taken-in-Ok-clause-served
returns-in_ok-tell_taken-in-Ok-clause-served c =
    asks_one c.args.number step.Take (Ok (reply.Taken c.in-Ok.version)) c.args.flow.now c.take.new.self c.args.out.now.items
    c.tell_taken.new.out.items false c.in-Ok.ensures.went (no_want (reply.Taken c.in-Ok.version)) c.in_ok-tell_taken-in-Ok.ensures refl

pub returns-in_default : goal.returns-in_default
returns-in_default c = record {
  served = refuses_one c.args.number step.Take c.in-Err.fault c.args.flow.now c.take.new.self c.args.out.now.items
      c.refuse_step.new.out.items c.refuse_step.result c.in-Err.ensures.went c.in_default.not-NoMemory c.refuse_step.ensures;
  room = c.in-Err.ensures.went.room;
}
