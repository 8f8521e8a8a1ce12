-- `with_options`: what holds in each turn of its loop.
use Rattle.std.proofs.Common.{◌≡◌, drop, fold, map}
use Rattle.clap.specs.Words.{app_of, with_rule}
use Rattle.nms_serve.specs.Options.{option_rule}
use Rattle.nms_serve.proofs.words.command_line.with_options.Given as goal

-- the options that are left complete it
abbrev pub invariant-loop-option : goal.invariant-loop-option
invariant-loop-option l = fold with_rule (app_of l.command) (map option_rule (drop l.option-index l.options))
    ≡ fold with_rule (app_of l.fn.command) (map option_rule l.options)
