-- The subcommands as the parser has them, and what a call of one must satisfy.
use Rattle.std.proofs.Common.{◌≡◌, ◌∙◌, Bool, true, false, List, [], ◌∷◌, Option, Some, ap, find, fold, option_map, refl, unwrap_or, codes}
use Rattle.std.specs.Option.{option_map_or}
use Rattle.std.specs.List.{list_all, list_any}
use Rattle.std.specs.Str.{bytes_eq}
use Rattle.std.proofs.lemmas.Bool.{and_parts}
use Rattle.clap.specs.Simple.{entered, filled, label_of}
use Rattle.clap.specs.Takes.{entered_passes, level_passes}
use Rattle.clap.specs.Walk.{answers_to, finished, nothing_held, rows_after}
use Rattle.clap.specs.Words.{Row, Shape, Text, built}
use Rattle.nms_words.specs.CommandLine.{asked_in, bare, manual_rule, name_of, options_of, self_help_rule, setup_rule, sub_named, tool}
use Rattle.nms_words.specs.PlainCall.{Choice, chosen, is_same_option, option_of}
use Rattle.nms_words.proofs.NamedSubs.{above}
use Rattle.nms_words.proofs.WalkSteps.{HasManual, HasOption, HasValued, HaveOptions, PassesCall, call_taken, is_single}
use Rattle.nms_words.specs.declared.option_word.OptionWord.{OptionWord}
use Rattle.nms_words.specs.declared.option_word.OptionWord.TheVariants.{Setup, Manual, SelfHelp}
use Rattle.nms_words.specs.declared.subcommand.Sub.{Sub}
use Rattle.nms_words.specs.declared.subcommand.Sub.TheVariants.{Script, Report, Plan, Check, Live}

abbrev pub leaf : Sub → Shape
leaf sub = unwrap_or (find (λ s. bytes_eq s.name (name_of sub)) (built tool).subs) above

-- the parser finds a subcommand by its name
found : (sub : Sub) → find (λ s. answers_to (name_of sub) (label_of s)) (built tool).subs ≡ Some (leaf sub)
found Script = refl
found Report = refl
found Plan = refl
found Check = refl
found Live = refl

pub level_of : (sub : Sub) (rest : List Text) → entered_passes (built tool) (Some (name_of sub, rest))
    ≡ level_passes (leaf sub) [] nothing_held rest false
level_of sub rest = ap (λ (met : Option Shape). option_map_or (λ s. level_passes s [] nothing_held rest false) met true) (found sub)

leaf_name : (sub : Sub) → (leaf sub).name ≡ name_of sub
leaf_name Script = refl
leaf_name Report = refl
leaf_name Plan = refl
leaf_name Check = refl
leaf_name Live = refl

pub rows_of_level : (sub : Sub) (rest : List Text) → entered (built tool) (Some (name_of sub, rest))
    ≡ Some (name_of sub, rows_after (leaf sub).rules [] rest)
rows_of_level sub rest =
    ap (option_map (λ (s : Shape). (s.name, rows_after s.rules [] rest))) (found sub)
    ∙ ap (λ (name : Text). Some (name, rows_after (leaf sub).rules [] rest)) (leaf_name sub)

pub named : (sub : Sub) → sub_named (name_of sub) ≡ Some sub
named Script = refl
named Report = refl
named Plan = refl
named Check = refl
named Live = refl

pub leaf_single : (sub : Sub) → list_all is_single (leaf sub).rules ≡ true
leaf_single Script = refl
leaf_single Report = refl
leaf_single Plan = refl
leaf_single Check = refl
leaf_single Live = refl

-- ---- the options that a subcommand takes

-- whether a subcommand takes the option of a choice
abbrev takes : Sub → Choice → Bool
takes sub choice = list_any (is_same_option (option_of choice)) (options_of sub)

-- it takes each that is chosen
abbrev pub AreTaken : Sub → List Choice → Type 0
AreTaken sub choices = list_all (takes sub) choices ≡ true

leaf_setup : (sub : Sub) → HasValued (leaf sub).rules (codes "setup")
leaf_setup Script = record { rule = filled setup_rule; by_long = refl; by_id = refl; id = refl; takes = refl; one = refl }
leaf_setup Report = record { rule = filled setup_rule; by_long = refl; by_id = refl; id = refl; takes = refl; one = refl }
leaf_setup Plan = record { rule = filled setup_rule; by_long = refl; by_id = refl; id = refl; takes = refl; one = refl }
leaf_setup Check = record { rule = filled setup_rule; by_long = refl; by_id = refl; id = refl; takes = refl; one = refl }
leaf_setup Live = record { rule = filled setup_rule; by_long = refl; by_id = refl; id = refl; takes = refl; one = refl }

plan_manual : HasManual (leaf Plan).rules
plan_manual = record { rule = filled manual_rule; by_long = refl; flag = refl }

plan_self_help : HasValued (leaf Plan).rules (codes "self-help")
plan_self_help = record { rule = filled self_help_rule; by_long = refl; by_id = refl; id = refl; takes = refl; one = refl }

leaf_option : (sub : Sub) (option : OptionWord) → list_any (is_same_option option) (options_of sub) ≡ true
    → HasOption (leaf sub).rules option
leaf_option sub Setup takes = leaf_setup sub
leaf_option Script Manual takes = cc
leaf_option Report Manual takes = cc
leaf_option Plan Manual takes = plan_manual
leaf_option Check Manual takes = cc
leaf_option Live Manual takes = cc
leaf_option Script SelfHelp takes = cc
leaf_option Report SelfHelp takes = cc
leaf_option Plan SelfHelp takes = plan_self_help
leaf_option Check SelfHelp takes = cc
leaf_option Live SelfHelp takes = cc

pub leaf_options : (sub : Sub) (choices : List Choice) → AreTaken sub choices → HaveOptions (leaf sub).rules choices
leaf_options sub [] taken = tt
leaf_options sub (choice ∷ rest) taken =
    let both = and_parts (takes sub choice) (list_all (takes sub) rest) taken in
    (leaf_option sub (option_of choice) both.0, leaf_options sub rest both.1)

-- ---- a call of a subcommand

abbrev pub rows_held : Sub → List Text → List Choice → List Row
rows_held sub own choices = finished (leaf sub).rules (call_taken (leaf sub).rules own choices).0

-- the subcommand takes the arguments and the options, and holds them then
pub record Answers (sub : Sub) (own : List Text) (choices : List Choice) : Type 0 where
  pub passes : PassesCall (leaf sub) own choices
  pub asks : asked_in (rows_held sub own choices) sub ≡ Some (fold chosen (bare sub own) choices)
