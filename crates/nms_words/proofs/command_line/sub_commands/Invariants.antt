-- `sub_commands`: what holds in each turn of its loop.
use Rattle.std.proofs.Common.{◌≡◌, ◌++◌, false, map, drop}
use Rattle.std.specs.Prelude.{All}
use Rattle.clap.specs.Words.{app_of}
use Rattle.clap.specs.declared.builder.command.Command.TheViews.{out-Command as fields_of}
use Rattle.nms_words.specs.CommandLine.{app_of_sub, subs}
use Rattle.nms_words.proofs.command_line.sub_commands.Given as goal

abbrev pub invariant-loop-sub : goal.invariant-loop-sub
invariant-loop-sub l = record {
  apps : map app_of l.below.items ++ map app_of_sub (drop l.sub-index subs) ≡ map app_of_sub subs;
  local : All (λ command. (fields_of command).has_globals ≡ false) l.below.items;
}
