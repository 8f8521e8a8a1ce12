-- Calls in plain words: a subcommand, its own words in order, and its options. This product's own rule.
use Rattle.std.specs.Prelude.{◌≡◌, ◌==◌, ◌++◌, ◌&&◌, Bool, true, false, not, List, [], ◌∷◌, Some, length, map, fold, codes}
use Rattle.std.specs.List.{list_all, list_any}
use Rattle.clap.specs.Words.{Text}
use Rattle.nms_words.specs.CommandLine.{AreCounted, Asked, bare, name_of, options_of}
use Rattle.nms_words.specs.declared.option_word.OptionWord.{OptionWord}
use Rattle.nms_words.specs.declared.option_word.OptionWord.TheVariants.{Setup, Manual, SelfHelp}

-- neither empty nor beginning with a hyphen
abbrev pub is_plain_word : Text → Bool
is_plain_word [] = false
is_plain_word (c ∷ _) = not (c == 45)

-- an option as the arguments choose it
pub data Choice : Type 0 where
  setup_to : Text → Choice
  manual_on : Choice
  self_help_of : Text → Choice

-- which option it is
abbrev pub option_of : Choice → OptionWord
option_of (setup_to file) = Setup
option_of manual_on = Manual
option_of (self_help_of names) = SelfHelp

-- its words
abbrev pub choice_words : Choice → List Text
choice_words (setup_to file) = codes "--setup" ∷ file ∷ []
choice_words manual_on = codes "--manual" ∷ []
choice_words (self_help_of names) = codes "--self-help" ∷ names ∷ []

-- whether its value, if it has one, is plain
abbrev pub is_plain_choice : Choice → Bool
is_plain_choice (setup_to file) = is_plain_word file
is_plain_choice manual_on = true
is_plain_choice (self_help_of names) = is_plain_word names

-- what is asked with it
abbrev pub chosen : Asked → Choice → Asked
chosen asked (setup_to file) = record asked { setup = Some file }
chosen asked manual_on = record asked { manual = true }
chosen asked (self_help_of names) = record asked { self_help = Some names }

-- the arguments of each, one after the other
abbrev pub choices_words : List Choice → List Text
choices_words [] = []
choices_words (choice ∷ rest) = choice_words choice ++ choices_words rest

abbrev pub is_same_option : OptionWord → OptionWord → Bool
is_same_option Setup Setup = true
is_same_option Manual Manual = true
is_same_option SelfHelp SelfHelp = true
is_same_option _ _ = false

-- whether each option is there at most once
abbrev pub is_each_once : List OptionWord → Bool
is_each_once [] = true
is_each_once (option ∷ rest) = not (list_any (is_same_option option) rest) && is_each_once rest

-- the arguments are the subcommand, its own words in order, and options that it takes, each at most once and in any order; none
-- of the arguments and values is empty or begins with a hyphen
pub record IsPlainCall (words : List Text) (asked : Asked) : Type 0 where
  pub choices : List Choice
  pub spelled : words ≡ (name_of asked.command ∷ asked.own) ++ choices_words choices
  pub asked_so : asked ≡ fold chosen (bare asked.command asked.own) choices
  pub counted : AreCounted asked.command (length asked.own)
  pub taken : list_all (λ choice. list_any (is_same_option (option_of choice)) (options_of asked.command)) choices ≡ true
  pub once : is_each_once (map option_of choices) ≡ true
  pub plain : list_all is_plain_word asked.own ≡ true
  pub plain_choices : list_all is_plain_choice choices ≡ true
