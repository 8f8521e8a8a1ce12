-- `sub_command`: all that it promises, by `args_added` and `args_local`.
use Rattle.std.proofs.Common.{rules, ◌≡◌, ◌∙◌, List, false, fold, map, ap, refl}
use Rattle.std.proofs.lemmas.Result.{IfOk-weaker}
use Rattle.clap.specs.Words.{App, Rule, app_of, new_app, rule_of, with_rule}
use Rattle.clap.specs.declared.builder.command.Command.TheViews.{out-Command as fields_of}
use Rattle.nms_words.specs.CommandLine.{app_of_sub, name_of}
use Rattle.nms_words.specs.WordTable.{rules_of_sub}
use Rattle.nms_words.specs.declared.subcommand.Sub.{Sub}
use Rattle.nms_words.specs.declared.subcommand.Sub.TheVariants.{Script, Report, Plan, Check, Live}
use Rattle.nms_words.proofs.Chains.{args_added, args_local}
use Rattle.nms_words.proofs.command_line.sub_command.Goals as goal

-- the arguments of each subcommand follow one another
ruled : (sub : Sub) → fold with_rule (new_app (name_of sub)) (rules_of_sub sub) ≡ app_of_sub sub
ruled Script = refl
ruled Report = refl
ruled Plan = refl
ruled Check = refl
ruled Live = refl

pub returns : goal.returns
returns c =
    let sub = c.args.sub in
    let start = c.about.result in
    let bare : app_of start ≡ new_app (name_of sub) = search rules in
    let none : (fields_of start).has_globals ≡ false = search rules in
    let met : map rule_of c.in_ok-args.args.items ≡ rules_of_sub sub = c.in_ok-args.ensures.rules ∙ c.words.ensures.rules in
    record {
      app = IfOk-weaker c.args-2.result _ _
          (λ command added. args_added start command c.in_ok-args.args.items added c.in_ok-args.ensures.local
          ∙ ap (λ (rs : List Rule). fold with_rule (app_of start) rs) met
          ∙ ap (λ (app : App). fold with_rule app (rules_of_sub sub)) bare
          ∙ ruled sub)
          c.args-2.ensures;
      local = IfOk-weaker c.args-2.result _ _
          (λ command added. args_local start command c.in_ok-args.args.items added c.in_ok-args.ensures.local none)
          c.args-2.ensures;
    }
