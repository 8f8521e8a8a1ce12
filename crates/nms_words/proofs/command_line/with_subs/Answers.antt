-- `with_subs`: all that it promises, by `subs_added`.
use Rattle.std.proofs.Common.{rules, ◌≡◌, ◌∙◌, fold, map, ap}
use Rattle.std.proofs.lemmas.Result.{IfOk-weaker}
use Rattle.clap.specs.Simple.{app_of_fields}
use Rattle.clap.specs.Words.{App, app_of, with_subcommand}
use Rattle.nms_words.specs.CommandLine.{tool, without_subs}
use Rattle.nms_words.proofs.Chains.{subs_added}
use Rattle.nms_words.proofs.command_line.with_subs.Goals as goal

pub returns : goal.returns
returns c =
    let top : app_of c.disable_help_subcommand.result ≡ without_subs = search rules in
    let with_sub : App → App → App = λ app sub. with_subcommand app sub.top in
    let below : app_of c.in_ok-subcommands.field-0 ≡ tool =
    subs_added c.disable_help_subcommand.result c.in_ok-subcommands.field-0 c.args.below.items c.in_ok-subcommands.ensures c.requires.local
    ∙ ap (λ (app : App). fold with_sub app (map app_of c.args.below.items)) top
    ∙ ap (fold with_sub without_subs) c.requires.apps in
    IfOk-weaker c.bin_name.result _ _ (λ command named. ap app_of_fields named.0 ∙ below) c.bin_name.ensures
