-- `serve_change`: clause `served`, by `asks_one`, `no_want`, `refuses_one`, `sends` and `sends_all`.
use Rattle.std.proofs.Common.{◌≡◌, false, Some, Ok, refl, sym}
use Rattle.std.proofs.lemmas.List.{append-nil}
use Rattle.nms_flow.specs.declared.reply.Reply.TheVariants as reply
use Rattle.nms_flow.specs.declared.step.Step.TheVariants as step
use Rattle.nms_flow.specs.declared.step_fault.StepFault.{StepFault}
use Rattle.nms_flow.specs.declared.step_fault.StepFault.TheVariants as fault
use Rattle.nms_scripts.proofs.ScriptFacts.{asks_one, no_want, refuses_one, sends, sends_all}
use Rattle.nms_scripts.proofs.script_record.serve_change.Goals as goal

full_no_want : {why : StepFault} → why ≡ fault.QueueFull → why ≡ fault.NoMemory → ⊥
full_no_want e f = cc

pub returns-in-Ok-clause-served : goal.returns-in-Ok-clause-served
returns-in-Ok-clause-served c =
    sends c.args.roster.now c.args.number c.args.change.now c.feed_of_change-feed.result c.args.flow.now c.send.new.self
    (Some c.args.out.now.items) (Some c.args.out.now.items) false
    c.feed_of_change-feed.ensures
    (asks_one c.args.number (step.Send c.feed_of_change-feed.result c.args.change.now) (Ok reply.Sent) c.args.flow.now c.send.new.self
    c.args.out.now.items c.args.out.now.items false c.in-Ok.ensures.went (no_want reply.Sent) (sym (append-nil c.args.out.now.items))
    refl)

pub returns-in-Err-clause-served : goal.returns-in-Err-clause-served
returns-in-Err-clause-served c =
    sends_all c.args.roster.now c.args.number c.args.change.now c.feed_of_change-feed.result c.args.flow.now c.send.new.self
    (Some c.args.out.now.items) (Some c.refuse_step.new.out.items) c.refuse_step.result
    c.feed_of_change-feed.ensures
    (refuses_one c.args.number (step.Send c.feed_of_change-feed.result c.args.change.now) c.in-Err.fault c.args.flow.now c.send.new.self
    c.args.out.now.items c.refuse_step.new.out.items c.refuse_step.result c.in-Err.ensures.went (full_no_want c.in-Err.ensures.full)
    c.refuse_step.ensures)
