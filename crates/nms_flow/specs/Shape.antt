-- Which replies and which faults a step can have, whatever came before. This product's own rule.
use Rattle.std.specs.Prelude.{ℕ, ◌≡◌, ◌⊎◌, Bool, true, MatchResult}
use Rattle.nms_quote.specs.Roster.{Sizes, holds}
use Rattle.nms_board.specs.View.{Seen}
use Rattle.nms_flow.specs.Run.{Answer}
use Rattle.nms_flow.specs.declared.step.Step.{Step}
use Rattle.nms_flow.specs.declared.step.Step.TheVariants as step
use Rattle.nms_flow.specs.declared.reply.Reply.{Reply}
use Rattle.nms_flow.specs.declared.reply.Reply.TheVariants as reply
use Rattle.nms_flow.specs.declared.step_fault.StepFault.{StepFault}
use Rattle.nms_flow.specs.declared.step_fault.StepFault.TheVariants as fault

-- whether a step speaks of the roster: a change that is sent does
abbrev pub holds_step : Sizes → Step → Bool
holds_step sizes (step.Send feed change) = holds sizes change
holds_step sizes step.Take = true
holds_step sizes step.Publish = true
holds_step sizes (step.Tell desk) = true
holds_step sizes (step.Look desk sym) = true

-- a look answers a view of its symbol, and the answer to telling a desk names the desk
abbrev pub IsReplyTo : Step → Reply → Type 0
IsReplyTo (step.Send feed change) r = r ≡ reply.Sent
IsReplyTo step.Take r = (version : ℕ) × (r ≡ reply.Taken version)
IsReplyTo step.Publish r = (version : ℕ) × (r ≡ reply.Published version)
IsReplyTo (step.Tell desk) r = (version : ℕ) × (r ≡ reply.Told desk version)
IsReplyTo (step.Look desk sym) r = (seen : Seen) × (r ≡ reply.Seen seen) × (seen.sym ≡ sym)

-- a send is refused by a full queue, a taking for each of its three reasons, and no other step
abbrev pub MayRefuse : Step → StepFault → Type 0
MayRefuse (step.Send feed change) f = f ≡ fault.QueueFull
MayRefuse step.Take f = (f ≡ fault.QueueEmpty) ⊎ (f ≡ fault.TapeFull) ⊎ (f ≡ fault.NoMemory)
MayRefuse step.Publish f = ⊥
MayRefuse (step.Tell desk) f = ⊥
MayRefuse (step.Look desk sym) f = ⊥

abbrev pub HasShape : Step → Answer → Type 0
HasShape step answer = MatchResult answer (IsReplyTo step) (MayRefuse step)
