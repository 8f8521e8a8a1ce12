-- What the arguments ask for was done, from what they came to before a live run to the exit status.
use Rattle.std.proofs.Common.{ℕ, ◌≡◌, ◌∙◌, List, inl, inr, refl, sym, subst}
use Rattle.std.specs.Prelude.{Option, Result, Ok, Err, IfErr, IfOk}
use Rattle.nms_fees.specs.Settings.{Settings}
use Rattle.nms_words.specs.CommandLine.{Asked}
use Rattle.nms_words.specs.declared.subcommand.Sub.{Sub}
use Rattle.nms_words.specs.declared.subcommand.Sub.TheVariants as sub
use Rattle.nms_tool.specs.Failed.{Stops, StopsRun}
use Rattle.nms_tool.specs.Served.{AreServed, Does, Runs}
use Rattle.nms_command.specs.Served.{Serves}
use Rattle.nms_command.specs.Statuses.{status_of_ending}
use Rattle.nms_command.specs.Steps.{AreMet, AsksRun, MeetsWords}
use Rattle.nms_command.specs.declared.ending.Ending.{Ending}
use Rattle.nms_command.specs.declared.ending.Ending.TheVariants as ending
use Rattle.nms_command.specs.declared.live_input.LiveInput.{LiveInput}
use Rattle.nms_command.specs.declared.step.Step.{Step}
use Rattle.nms_command.specs.declared.step.Step.TheVariants as step
use Rattle.nms_tool.specs.declared.tool_fault.ToolFault.{ToolFault}
use Rattle.nms_tool.specs.declared.tool_fault.ToolFault.TheVariants as tool
use Rattle.nms_command.proofs.Offered.{done_by, judged_by}
use Rattle.nms_tool.proofs.LiveFacts.{stops_more}

-- a served request of any subcommand but `live` was done
done_apart : (command : Sub) (settings : Settings) (asked : Asked) (input old new : Option (List ℕ)) (ends : Ending)
    → Serves command settings asked input old new ends → Does command settings asked input old new ends
done_apart sub.Script settings asked input old new ends serves = serves
done_apart sub.Report settings asked input old new ends serves = serves
done_apart sub.Plan settings asked input old new ends serves = serves
done_apart sub.Check settings asked input old new ends serves = serves
done_apart sub.Live settings asked input old new ends serves = absurd serves

-- what ended before a live run was done
pub ended_apart : (came : Step) (ends : Ending) (words : List (List ℕ)) (input old new : Option (List ℕ))
    → came ≡ step.Ended ends → AreMet words input old new came → AreServed words input old new ends
ended_apart came ends words input old new is met = apart (subst (AreMet words input old new) is met)
  where
    apart : AreMet words input old new (step.Ended ends) → AreServed words input old new ends
    apart (inl asks) =
        let asked = asks.0 in
        let settings = asks.2.0 in
        inl (asked, asks.1, (settings, asks.2.1, done_apart asked.command settings asked input old new ends asks.2.2))
    apart (inr help) = inr help

-- a live run that was asked for and made was done
live_served : (words : List (List ℕ)) (settings : Settings) (given : LiveInput) (input old read new : Option (List ℕ))
    → MeetsWords words input old read (step.Live settings given) → Runs settings old new → AreServed words input old new ending.Done
live_served words settings given input old read new asks ran =
    let asked = asks.0 in
    let run : AsksRun asked settings given = asks.2.0 in
    let does : Does sub.Live settings asked input old new ending.Done = (refl, ran) in
    inl (asked, asks.1, (settings, run.setup, subst (λ command. Does command settings asked input old new ending.Done) (sym run.live) does))

pub ended_live : (r : Result Ending ToolFault) (came : Step) (words : List (List ℕ)) (settings : Settings) (given : LiveInput)
    (input old read new : Option (List ℕ))
    → came ≡ step.Live settings given → AreMet words input old read came
    → IfOk r (λ ends. (ends ≡ ending.Done) × Runs settings read new) → IfOk r (AreServed words input old new)
ended_live (Ok ends) came words settings given input old read new is met ran =
    let asks : MeetsWords words input old read (step.Live settings given) = subst (AreMet words input old read) is met in
    subst (AreServed words input old new) (sym ran.0)
    (live_served words settings given input old read new asks (subst (λ from. Runs settings from new) asks.2.1 ran.1))
ended_live (Err why) came words settings given input old read new is met ran = tt

-- what it had written when it failed
live_stopped : (why : ToolFault) (words : List (List ℕ)) (settings : Settings) (given : LiveInput) (input old read new : Option (List ℕ))
    → MeetsWords words input old read (step.Live settings given) → StopsRun (Runs settings old) old new why → Stops words input old new why
live_stopped (tool.Command own) words settings given input old read new asks stops = absurd stops
live_stopped (tool.Live own) words settings given input old read new asks stops = stops
live_stopped (tool.LiveText own) words settings given input old read new asks stops =
    stops_more (tool.LiveText own) (Runs settings old) (λ whole. AreServed words input old whole ending.Done) old new
    (λ whole ran. live_served words settings given input old read whole asks ran) stops

pub stopped_live : {X : Type 0} (r : Result X ToolFault) (came : Step) (words : List (List ℕ)) (settings : Settings) (given : LiveInput)
    (input old read new : Option (List ℕ))
    → came ≡ step.Live settings given → AreMet words input old read came
    → IfErr r (StopsRun (Runs settings read) read new) → IfErr r (Stops words input old new)
stopped_live (Ok x) came words settings given input old read new is met stops = tt
stopped_live (Err why) came words settings given input old read new is met stops =
    let asks : MeetsWords words input old read (step.Live settings given) = subst (AreMet words input old read) is met in
    live_stopped why words settings given input old read new asks (subst (λ from. StopsRun (Runs settings from) from new why) asks.2.1 stops)

pub ended_done : (ends : Ending) (status : ℕ) (words : List (List ℕ)) (input old new : Option (List ℕ))
    → status ≡ status_of_ending ends → AreServed words input old new ends → status ≡ 0 → AreServed words input old new ending.Done
ended_done ends status words input old new is served zero = subst (AreServed words input old new) (done_by ends (sym is ∙ zero)) served

pub ended_judged : (ends : Ending) (status : ℕ) (words : List (List ℕ)) (input old new : Option (List ℕ))
    → status ≡ status_of_ending ends → AreServed words input old new ends → status ≡ 4 → AreServed words input old new ending.NotConfirmed
ended_judged ends status words input old new is served four = subst (AreServed words input old new) (judged_by ends (sym is ∙ four)) served
