-- `sub_commands`: the turns of its loop, by `mapped_next` and `all_next`.
use Rattle.std.proofs.Common.{arith, ◌≡◌, false}
use Rattle.std.proofs.lemmas.Grind.{common_steps}
use Rattle.clap.specs.Words.{app_of}
use Rattle.clap.specs.declared.builder.command.Command.{Command}
use Rattle.clap.specs.declared.builder.command.Command.TheViews.{out-Command as fields_of}
use Rattle.nms_words.specs.CommandLine.{app_of_sub, subs}
use Rattle.nms_words.proofs.Turns.{all_next, mapped_next}
use Rattle.nms_words.proofs.command_line.sub_commands.Goals as goal

pub loop-sub-preserved : goal.loop-sub-preserved
loop-sub-preserved c = record {
  apps = mapped_next app_of app_of_sub c.loop-sub.below.items c.push.new.self.items c.in_ok-sub_command.field-0 subs c.loop-sub.sub-index _
      c.loop-sub-test.true c.in_ok-push.ensures.items c.in_ok-sub_command.ensures.app c.loop-sub.invariant.apps;
  local = all_next (λ (command : Command). (fields_of command).has_globals ≡ false) c.loop-sub.below.items c.push.new.self.items
      c.in_ok-sub_command.field-0
      c.in_ok-push.ensures.items c.loop-sub.invariant.local c.in_ok-sub_command.ensures.local;
}

-- ---- goals that `grind` closes; the search that is tried before it takes longer

pub returns-clause-apps : goal.returns-clause-apps
returns-clause-apps c = grind (arith, common_steps)

pub loop-sub-init : goal.loop-sub-init
loop-sub-init c = grind (arith, common_steps)
