-- What the arguments of a subcommand's table are: rules of the parser, and names of own words. This product's own rule.
use Rattle.std.specs.Prelude.{◌++◌, List, Option, Some, None, map, option_and_then}
use Rattle.std.specs.List.{filter_map}
use Rattle.clap.specs.Words.{Row, Rule, Text, first_of, new_rule}
use Rattle.clap.specs.declared.builder.action.ArgAction.TheVariants.{SetTrue}
use Rattle.nms_words.specs.CommandLine.{more_names, option_rule, options_of, own_names, own_rule}
use Rattle.nms_words.specs.declared.option_word.OptionWord.TheVariants as option
use Rattle.nms_words.specs.declared.subcommand.Sub.{Sub}
use Rattle.nms_words.specs.declared.subcommand.Word.{Word}
use Rattle.nms_words.specs.declared.subcommand.WordKind.{WordKind}
use Rattle.nms_words.specs.declared.subcommand.WordKind.TheVariants as kind

-- the rule of an argument by its kind; an option has its name with two hyphens, and one of two has a value
abbrev rule_by : WordKind → Text → Rule
rule_by kind.Needed name = own_rule name
rule_by kind.Further name = new_rule name
rule_by (kind.Option option.Setup) name = record (new_rule name) { long = Some name; value_names = 1 }
rule_by (kind.Option option.Manual) name = record (new_rule name) { long = Some name; action = Some SetTrue }
rule_by (kind.Option option.SelfHelp) name = record (new_rule name) { long = Some name; value_names = 1 }

abbrev pub rule_for : Word → Rule
rule_for word = rule_by word.kind word.name.now

-- the rules of a subcommand: its needed arguments, those that may follow them, its options
abbrev pub rules_of_sub : Sub → List Rule
rules_of_sub sub = map own_rule (own_names sub) ++ map new_rule (more_names sub) ++ map option_rule (options_of sub)

-- the name of a word, if it is no option
abbrev pub own_by : WordKind → Text → Option Text
own_by kind.Needed name = Some name
own_by kind.Further name = Some name
own_by (kind.Option _) name = None

-- the names of the arguments that are no options, in order
abbrev pub own_of : List Word → List Text
own_of words = filter_map (λ word. own_by word.kind word.name.now) words

-- the first value of a word that is no option
abbrev pub own_value : List Row → Word → Option Text
own_value rows word = option_and_then (λ name. first_of name rows) (own_by word.kind word.name.now)
