-- What the arguments of the command line ask for. This product's own rule.
use Rattle.std.specs.Prelude.{ℕ, ◌≡◌, ◌≤◌, ◌+◌, Bool, true, false, List, [], ◌∷◌, ◌++◌, length, map, fold, find, codes}
use Rattle.std.specs.List.{filter_map}
use Rattle.std.specs.Prelude.{Option, Some, None, option_map, option_and_then}
use Rattle.std.specs.Option.{option_map_or}
use Rattle.std.specs.Str.{bytes_eq}
use Rattle.std.specs.String.{string_bytes}
use Rattle.clap.specs.Words.{App, IsAmong, Kinds, Row, Rule, Text, fault_of, first_of, new_app, new_rule, subcommand_of, with_rule}
use Rattle.clap.specs.Words.{with_subcommand}
use Rattle.clap.specs.Simple.{on_top}
use Rattle.clap.specs.declared.builder.action.ArgAction.TheVariants.{SetTrue}
use Rattle.clap.specs.declared.error.kind.ErrorKind.{ErrorKind}
use Rattle.clap.specs.declared.error.kind.ErrorKind.TheVariants.{DisplayHelp, DisplayVersion}
use Rattle.nms_words.specs.declared.option_word.OptionWord.{OptionWord}
use Rattle.nms_words.specs.declared.option_word.OptionWord.TheVariants.{Setup, Manual, SelfHelp}
use Rattle.nms_words.specs.declared.request.Request.{Request}
use Rattle.nms_words.specs.declared.subcommand.Sub.{Sub}
use Rattle.nms_words.specs.declared.subcommand.Sub.TheVariants.{Script, Report, Plan, Check, Live}
use Rattle.nms_words.specs.declared.words_fault.WordsFault.{WordsFault}
use Rattle.nms_words.specs.declared.words_fault.WordsFault.TheVariants.{Parser, NoMemory}

-- a subcommand, its own words in order, the file of its setup, whether it trades with manual quotations, and the names that
-- self-help is declared against
pub record Asked : Type 0 where
  pub command : Sub
  pub own : List Text
  pub setup : Option Text
  pub manual : Bool
  pub self_help : Option Text

-- ---- the subcommands

-- the word that asks for a subcommand
abbrev pub name_of : Sub → Text
name_of Script = codes "script"
name_of Report = codes "report"
name_of Plan = codes "plan"
name_of Check = codes "check"
name_of Live = codes "live"

-- the names of the own words that a subcommand needs, in order
abbrev pub own_names : Sub → List Text
own_names Script = []
own_names Report = codes "CHANGES" ∷ codes "SYM" ∷ []
own_names Plan = codes "CHANGES" ∷ codes "SIDE" ∷ codes "SYM" ∷ codes "SHARES" ∷ codes "LIMIT" ∷ []
own_names Check = codes "CHANGES" ∷ codes "PLANFILE" ∷ []
own_names Live = codes "ORDERS" ∷ codes "FEED_A" ∷ []

-- the names of those that may follow them, in order
abbrev pub more_names : Sub → List Text
more_names Live =
    codes "FEED_B" ∷ codes "FEED_C" ∷ codes "FEED_D" ∷ codes "FEED_E" ∷ codes "FEED_F" ∷ codes "FEED_G" ∷ codes "FEED_H" ∷ []
more_names _ = []

-- a subcommand may have this number of arguments
abbrev pub AreCounted : Sub → ℕ → Type 0
AreCounted sub count = (length (own_names sub) ≤ count) × (count ≤ length (own_names sub) + length (more_names sub))

-- the options that a subcommand takes
abbrev pub options_of : Sub → List OptionWord
options_of Plan = Setup ∷ Manual ∷ SelfHelp ∷ []
options_of _ = Setup ∷ []

-- each subcommand
abbrev pub subs : List Sub
subs = Script ∷ Report ∷ Plan ∷ Check ∷ Live ∷ []

-- the subcommand of that name
abbrev pub sub_named : Text → Option Sub
sub_named name = find (λ sub. bytes_eq (name_of sub) name) subs

-- ---- the arguments that the parser takes

-- a word of a subcommand's own
abbrev pub own_rule : Text → Rule
own_rule name = record (new_rule name) { required = true }

-- the option `--setup FILE`
abbrev pub setup_rule : Rule
setup_rule = record (new_rule (codes "setup")) { long = Some (codes "setup"); value_names = 1 }

-- the flag `--manual`
abbrev pub manual_rule : Rule
manual_rule = record (new_rule (codes "manual")) { long = Some (codes "manual"); action = Some SetTrue }

-- the option `--self-help NAMES`
abbrev pub self_help_rule : Rule
self_help_rule = record (new_rule (codes "self-help")) { long = Some (codes "self-help"); value_names = 1 }

-- each option as the parser has it
abbrev pub option_rule : OptionWord → Rule
option_rule Setup = setup_rule
option_rule Manual = manual_rule
option_rule SelfHelp = self_help_rule

-- a subcommand with the own words that it needs, as the parser has it
abbrev pub with_own : Sub → App
with_own sub = fold with_rule (new_app (name_of sub)) (map own_rule (own_names sub))

-- and with those that may follow them
abbrev pub with_words : Sub → App
with_words sub = fold with_rule (with_own sub) (map new_rule (more_names sub))

-- and with its options
abbrev pub app_of_sub : Sub → App
app_of_sub sub = fold with_rule (with_words sub) (map option_rule (options_of sub))

-- the arguments are those after the program's name, `help` is no subcommand, and there is a version to print
abbrev pub without_subs : App
without_subs = on_top (λ top. record top { no_binary_name = true; disable_help_subcommand = true; has_version = true })
    (new_app (codes "nms_tool"))

-- the complete command line
abbrev pub tool : App
tool = fold (λ app sub. with_subcommand app (app_of_sub sub).top) without_subs subs

-- ---- what the matches hold

-- the first value of each id, if each has one
abbrev pub firsts_of : List Row → List Text → Option (List Text)
firsts_of rows [] = Some []
firsts_of rows (id ∷ ids) = option_and_then (λ value. option_map (λ values. value ∷ values) (firsts_of rows ids)) (first_of id rows)

-- the first value of each id that has one
abbrev pub given_of : List Row → List Text → List Text
given_of rows ids = filter_map (λ id. first_of id rows) ids

-- a subcommand's own words, if the matches have each that it needs
abbrev pub own_in : List Row → Sub → Option (List Text)
own_in rows sub = option_map (λ own. own ++ given_of rows (more_names sub)) (firsts_of rows (own_names sub))

-- whether the matches hold the flag: the parser gives it the value `true` or `false`
abbrev pub is_flagged : List Row → Bool
is_flagged rows = option_map_or (λ value. bytes_eq value (codes "true")) (first_of (codes "manual") rows) false

-- what the matches ask of a subcommand with these own words
abbrev pub asked_with : List Row → Sub → List Text → Asked
asked_with rows sub own =
    record {
      command = sub;
      own = own;
      setup = first_of (codes "setup") rows;
      manual = is_flagged rows;
      self_help = first_of (codes "self-help") rows;
    }

-- what the matches ask of a subcommand
abbrev pub asked_in : List Row → Sub → Option Asked
asked_in rows sub = option_map (asked_with rows sub) (own_in rows sub)

-- a subcommand with its own words and no option
abbrev pub bare : Sub → List Text → Asked
bare sub own = record { command = sub; own = own; setup = None; manual = false; self_help = None }

-- what no words ask: the script with no setup
abbrev pub script_alone : Asked
script_alone = bare Script []

-- what the matches ask, by the subcommand that they have
abbrev pub asked_of : Option (Text × List Row) → Option Asked
asked_of None = Some script_alone
asked_of (Some met) = option_and_then (asked_in met.1) (sub_named met.0)

-- what the arguments ask, by the matches that the parser makes of them
abbrev pub asked_by : List Text → Option Asked
asked_by words = asked_of (subcommand_of tool words)

-- what a request asks
abbrev pub shown : Request → Asked
shown request = record {
  command = request.command;
  own = map string_bytes request.words.items;
  setup = option_map string_bytes request.setup;
  manual = request.manual;
  self_help = option_map string_bytes request.self_help;
}

-- ---- words that are no request

-- the kinds of fault that the parser finds in the arguments, among which it answers one; none if it takes them
abbrev pub faults_in : List Text → Kinds
faults_in = fault_of tool

-- the arguments ask for help, or for the version
abbrev pub asks_for_help : ErrorKind → Bool
asks_for_help DisplayHelp = true
asks_for_help DisplayVersion = true
asks_for_help _ = false

-- why words with these kinds of fault are no request: one of the kinds, marked as help if it is that, or out of memory
abbrev pub IsRefusal : Kinds → WordsFault → Type 0
IsRefusal kinds (Parser text help) = (kind : ErrorKind) × IsAmong kind kinds × (help ≡ asks_for_help kind)
IsRefusal kinds NoMemory = Unit {0}
