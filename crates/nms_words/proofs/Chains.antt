-- A command with arguments or with subcommands that are added in turn.
use Rattle.std.proofs.Common.{◌≡◌, ◌∙◌, false, List, [], ◌∷◌, map, fold, ap, sym}
use Rattle.std.specs.Prelude.{All}
use Rattle.std.proofs.lemmas.List.Elements.{All-head, All-tail}
use Rattle.clap.specs.Built.{AddsArg, AddsInTurn, AddsSubcommand}
use Rattle.clap.specs.Words.{App, app_of, rule_of, with_rule, with_subcommand}
use Rattle.clap.specs.declared.builder.arg.Arg.{Arg}
use Rattle.clap.specs.declared.builder.command.Command.{Command}
use Rattle.clap.specs.declared.builder.command.Command.TheViews.{out-Command as fields_of}

-- no argument is global
abbrev pub AreLocalArgs : List Arg → Type 0
AreLocalArgs args = All (λ arg. arg.global ≡ false) args

pub args_added : (old new : Command) (args : List Arg) → AddsInTurn AddsArg old args new → AreLocalArgs args
    → app_of new ≡ fold with_rule (app_of old) (map rule_of args)
args_added old new [] added local = ap app_of (sym added)
args_added old new (arg ∷ args) added local =
    args_added added.0 new args added.2 (All-tail (λ (a : Arg). a.global ≡ false) arg args local)
    ∙ ap (λ (app : App). fold with_rule app (map rule_of args)) (added.1.shape (All-head (λ (a : Arg). a.global ≡ false) arg args local))

pub args_local : (old new : Command) (args : List Arg) → AddsInTurn AddsArg old args new → AreLocalArgs args
    → (fields_of old).has_globals ≡ false → (fields_of new).has_globals ≡ false
args_local old new [] added local none = ap (λ (c : Command). (fields_of c).has_globals) (sym added) ∙ none
args_local old new (arg ∷ args) added local none =
    let next : (fields_of added.0).has_globals ≡ false = rw (none, All-head (λ (a : Arg). a.global ≡ false) arg args local) at added.1.globals in
    args_local added.0 new args added.2 (All-tail (λ (a : Arg). a.global ≡ false) arg args local) next

pub subs_added : (old new : Command) (subs : List Command) → AddsInTurn AddsSubcommand old subs new
    → All (λ sub. (fields_of sub).has_globals ≡ false) subs
    → app_of new ≡ fold (λ app (sub : App). with_subcommand app sub.top) (app_of old) (map app_of subs)
subs_added old new [] added local = ap app_of (sym added)
subs_added old new (sub ∷ subs) added local =
    subs_added added.0 new subs added.2 (All-tail (λ (c : Command). (fields_of c).has_globals ≡ false) sub subs local)
    ∙ ap (λ (app : App). fold (λ app (sub : App). with_subcommand app sub.top) app (map app_of subs))
    (added.1.shape (All-head (λ (c : Command). (fields_of c).has_globals ≡ false) sub subs local))
