-- `with_options`: the turns of its loop.
use Rattle.std.proofs.Common.{◌∙◌, ◌+◌, map, fold, drop, ap, sym}
use Rattle.clap.specs.Words.{App, Rule, app_of, with_rule}
use Rattle.nms_serve.specs.Options.{option_rule}
use Rattle.nms_serve.proofs.Commands.{next_option}
use Rattle.nms_serve.proofs.words.command_line.with_options.Goals as goal

pub loop-option-preserved : goal.loop-option-preserved
loop-option-preserved c =
    let was = app_of c.loop-option.command in
    let i = c.loop-option.option-index in
    let options = c.args.options.now in
    let added = c.in_ok-command.ensures.shape c.option_arg.ensures.local ∙ ap (λ (rule : Rule). with_rule was rule) c.option_arg.ensures.rule in
    ap (λ (app : App). fold with_rule app (map option_rule (drop (i + 1) options))) added
    ∙ sym (next_option was options i _ c.loop-option-test.true)
    ∙ c.loop-option.invariant
