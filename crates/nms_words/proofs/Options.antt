-- What the parser holds of each list of options, each at most once: computed, one list after the other.
use Rattle.std.proofs.Common.{◌≡◌, Bool, true, false, not, List, [], ◌∷◌, Option, Some, None, length, map, refl, arith}
use Rattle.std.specs.List.{list_any}
use Rattle.std.proofs.lemmas.Bool.{and_parts, not-true}
use Rattle.clap.specs.Words.{Text}
use Rattle.clap.proofs.OnLiterals.{clap_on_literals}
use Rattle.nms_words.specs.CommandLine.{AreCounted}
use Rattle.nms_words.specs.PlainCall.{Choice, is_each_once, is_same_option, manual_on, option_of, self_help_of, setup_to}
use Rattle.nms_words.proofs.Leaves.{Answers, AreTaken}
use Rattle.nms_words.specs.declared.subcommand.Sub.TheVariants.{Script, Report, Plan, Check, Live}

-- no later choice is of the option
abbrev is_repeated : Choice → List Choice → Bool
is_repeated choice rest = list_any (is_same_option (option_of choice)) (map option_of rest)

-- each option is there at most once
abbrev pub Once : List Choice → Type 0
Once [] = Unit {0}
Once (choice ∷ rest) = (is_repeated choice rest ≡ false) × Once rest

pub each_once : (choices : List Choice) → is_each_once (map option_of choices) ≡ true → Once choices
each_once [] once = tt
each_once (choice ∷ rest) once =
    let both = and_parts (not (is_repeated choice rest)) (is_each_once (map option_of rest)) once in
    (not-true (is_repeated choice rest) both.0, each_once rest both.1)

apart : {A : Type 0} → true ≡ false → A
apart wrong = cc

-- ---- a subcommand that takes only the setup

abbrev pub setup_choices : Option Text → List Choice
setup_choices None = []
setup_choices (Some file) = setup_to file ∷ []

pub setup_alone : (choices : List Choice) → AreTaken Script choices → Once choices → (setup : Option Text) × (setup_choices setup ≡ choices)
setup_alone [] taken once = (None, refl)
setup_alone (setup_to file ∷ []) taken once = (Some file, refl)
setup_alone (setup_to file ∷ setup_to other ∷ rest) taken once = apart once.0
setup_alone (setup_to file ∷ manual_on ∷ rest) taken once = cc
setup_alone (setup_to file ∷ self_help_of names ∷ rest) taken once = cc
setup_alone (manual_on ∷ rest) taken once = cc
setup_alone (self_help_of names ∷ rest) taken once = cc

pub script_answers : (setup : Option Text) → Answers Script [] (setup_choices setup)
unfolding clap_on_literals
script_answers None = record { passes = record { words = refl; options = refl; last = refl }; asks = refl }
script_answers (Some file) = record { passes = record { words = refl; options = refl; last = refl }; asks = refl }

pub report_answers : (changes symbol : Text) (setup : Option Text) → Answers Report (changes ∷ symbol ∷ []) (setup_choices setup)
unfolding clap_on_literals
report_answers changes symbol None = record { passes = record { words = refl; options = refl; last = refl }; asks = refl }
report_answers changes symbol (Some file) = record { passes = record { words = refl; options = refl; last = refl }; asks = refl }

pub check_answers : (changes plan : Text) (setup : Option Text) → Answers Check (changes ∷ plan ∷ []) (setup_choices setup)
unfolding clap_on_literals
check_answers changes plan None = record { passes = record { words = refl; options = refl; last = refl }; asks = refl }
check_answers changes plan (Some file) = record { passes = record { words = refl; options = refl; last = refl }; asks = refl }

pub live_answers : (own : List Text) → AreCounted Live (length own) → (setup : Option Text) → Answers Live own (setup_choices setup)
unfolding clap_on_literals
live_answers [] counted setup = let no = counted.0 in absurd (omega arith)
live_answers (orders ∷ []) counted setup = let no = counted.0 in absurd (omega arith)
live_answers (orders ∷ a ∷ []) counted None = record { passes = record { words = refl; options = refl; last = refl }; asks = refl }
live_answers (orders ∷ a ∷ []) counted (Some file) = record { passes = record { words = refl; options = refl; last = refl }; asks = refl }
live_answers (orders ∷ a ∷ b ∷ []) counted None = record { passes = record { words = refl; options = refl; last = refl }; asks = refl }
live_answers (orders ∷ a ∷ b ∷ []) counted (Some file) =
    record { passes = record { words = refl; options = refl; last = refl }; asks = refl }
live_answers (orders ∷ a ∷ b ∷ c ∷ []) counted None = record { passes = record { words = refl; options = refl; last = refl }; asks = refl }
live_answers (orders ∷ a ∷ b ∷ c ∷ []) counted (Some file) =
    record { passes = record { words = refl; options = refl; last = refl }; asks = refl }
live_answers (orders ∷ a ∷ b ∷ c ∷ d ∷ []) counted None =
    record { passes = record { words = refl; options = refl; last = refl }; asks = refl }
live_answers (orders ∷ a ∷ b ∷ c ∷ d ∷ []) counted (Some file) =
    record { passes = record { words = refl; options = refl; last = refl }; asks = refl }
live_answers (orders ∷ a ∷ b ∷ c ∷ d ∷ e ∷ []) counted None =
    record { passes = record { words = refl; options = refl; last = refl }; asks = refl }
live_answers (orders ∷ a ∷ b ∷ c ∷ d ∷ e ∷ []) counted (Some file) =
    record { passes = record { words = refl; options = refl; last = refl }; asks = refl }
live_answers (orders ∷ a ∷ b ∷ c ∷ d ∷ e ∷ f ∷ []) counted None =
    record { passes = record { words = refl; options = refl; last = refl }; asks = refl }
live_answers (orders ∷ a ∷ b ∷ c ∷ d ∷ e ∷ f ∷ []) counted (Some file) =
    record { passes = record { words = refl; options = refl; last = refl }; asks = refl }
live_answers (orders ∷ a ∷ b ∷ c ∷ d ∷ e ∷ f ∷ g ∷ []) counted None =
    record { passes = record { words = refl; options = refl; last = refl }; asks = refl }
live_answers (orders ∷ a ∷ b ∷ c ∷ d ∷ e ∷ f ∷ g ∷ []) counted (Some file) =
    record { passes = record { words = refl; options = refl; last = refl }; asks = refl }
live_answers (orders ∷ a ∷ b ∷ c ∷ d ∷ e ∷ f ∷ g ∷ h ∷ []) counted None =
    record { passes = record { words = refl; options = refl; last = refl }; asks = refl }
live_answers (orders ∷ a ∷ b ∷ c ∷ d ∷ e ∷ f ∷ g ∷ h ∷ []) counted (Some file) =
    record { passes = record { words = refl; options = refl; last = refl }; asks = refl }
live_answers (orders ∷ a ∷ b ∷ c ∷ d ∷ e ∷ f ∷ g ∷ h ∷ i ∷ rest) counted setup = let no = counted.1 in absurd (omega arith)

-- ---- a plan

module _ (changes side symbol shares limit : Text) where
  pub plan_answers : (choices : List Choice) → Once choices → Answers Plan (changes ∷ side ∷ symbol ∷ shares ∷ limit ∷ []) choices
  unfolding clap_on_literals
  plan_answers [] once = record { passes = record { words = refl; options = refl; last = refl }; asks = refl }
  plan_answers (setup_to file ∷ []) once = record { passes = record { words = refl; options = refl; last = refl }; asks = refl }
  plan_answers (setup_to file ∷ setup_to other ∷ rest) once = apart once.0
  plan_answers (setup_to file ∷ manual_on ∷ []) once = record { passes = record { words = refl; options = refl; last = refl }; asks = refl }
  plan_answers (setup_to file ∷ manual_on ∷ setup_to other ∷ rest) once = apart once.0
  plan_answers (setup_to file ∷ manual_on ∷ manual_on ∷ rest) once = apart once.1.0
  plan_answers (setup_to file ∷ manual_on ∷ self_help_of names ∷ []) once =
      record { passes = record { words = refl; options = refl; last = refl }; asks = refl }
  plan_answers (setup_to file ∷ manual_on ∷ self_help_of names ∷ setup_to other ∷ rest) once = apart once.0
  plan_answers (setup_to file ∷ manual_on ∷ self_help_of names ∷ manual_on ∷ rest) once = apart once.1.0
  plan_answers (setup_to file ∷ manual_on ∷ self_help_of names ∷ self_help_of others ∷ rest) once = apart once.1.1.0
  plan_answers (setup_to file ∷ self_help_of names ∷ []) once =
      record { passes = record { words = refl; options = refl; last = refl }; asks = refl }
  plan_answers (setup_to file ∷ self_help_of names ∷ setup_to other ∷ rest) once = apart once.0
  plan_answers (setup_to file ∷ self_help_of names ∷ manual_on ∷ []) once =
      record { passes = record { words = refl; options = refl; last = refl }; asks = refl }
  plan_answers (setup_to file ∷ self_help_of names ∷ manual_on ∷ setup_to other ∷ rest) once = apart once.0
  plan_answers (setup_to file ∷ self_help_of names ∷ manual_on ∷ manual_on ∷ rest) once = apart once.1.1.0
  plan_answers (setup_to file ∷ self_help_of names ∷ manual_on ∷ self_help_of others ∷ rest) once = apart once.1.0
  plan_answers (setup_to file ∷ self_help_of names ∷ self_help_of others ∷ rest) once = apart once.1.0
  plan_answers (manual_on ∷ []) once = record { passes = record { words = refl; options = refl; last = refl }; asks = refl }
  plan_answers (manual_on ∷ setup_to file ∷ []) once = record { passes = record { words = refl; options = refl; last = refl }; asks = refl }
  plan_answers (manual_on ∷ setup_to file ∷ setup_to other ∷ rest) once = apart once.1.0
  plan_answers (manual_on ∷ setup_to file ∷ manual_on ∷ rest) once = apart once.0
  plan_answers (manual_on ∷ setup_to file ∷ self_help_of names ∷ []) once =
      record { passes = record { words = refl; options = refl; last = refl }; asks = refl }
  plan_answers (manual_on ∷ setup_to file ∷ self_help_of names ∷ setup_to other ∷ rest) once = apart once.1.0
  plan_answers (manual_on ∷ setup_to file ∷ self_help_of names ∷ manual_on ∷ rest) once = apart once.0
  plan_answers (manual_on ∷ setup_to file ∷ self_help_of names ∷ self_help_of others ∷ rest) once = apart once.1.1.0
  plan_answers (manual_on ∷ manual_on ∷ rest) once = apart once.0
  plan_answers (manual_on ∷ self_help_of names ∷ []) once =
      record { passes = record { words = refl; options = refl; last = refl }; asks = refl }
  plan_answers (manual_on ∷ self_help_of names ∷ setup_to file ∷ []) once =
      record { passes = record { words = refl; options = refl; last = refl }; asks = refl }
  plan_answers (manual_on ∷ self_help_of names ∷ setup_to file ∷ setup_to other ∷ rest) once = apart once.1.1.0
  plan_answers (manual_on ∷ self_help_of names ∷ setup_to file ∷ manual_on ∷ rest) once = apart once.0
  plan_answers (manual_on ∷ self_help_of names ∷ setup_to file ∷ self_help_of others ∷ rest) once = apart once.1.0
  plan_answers (manual_on ∷ self_help_of names ∷ manual_on ∷ rest) once = apart once.0
  plan_answers (manual_on ∷ self_help_of names ∷ self_help_of others ∷ rest) once = apart once.1.0
  plan_answers (self_help_of names ∷ []) once = record { passes = record { words = refl; options = refl; last = refl }; asks = refl }
  plan_answers (self_help_of names ∷ setup_to file ∷ []) once =
      record { passes = record { words = refl; options = refl; last = refl }; asks = refl }
  plan_answers (self_help_of names ∷ setup_to file ∷ setup_to other ∷ rest) once = apart once.1.0
  plan_answers (self_help_of names ∷ setup_to file ∷ manual_on ∷ []) once =
      record { passes = record { words = refl; options = refl; last = refl }; asks = refl }
  plan_answers (self_help_of names ∷ setup_to file ∷ manual_on ∷ setup_to other ∷ rest) once = apart once.1.0
  plan_answers (self_help_of names ∷ setup_to file ∷ manual_on ∷ manual_on ∷ rest) once = apart once.1.1.0
  plan_answers (self_help_of names ∷ setup_to file ∷ manual_on ∷ self_help_of others ∷ rest) once = apart once.0
  plan_answers (self_help_of names ∷ setup_to file ∷ self_help_of others ∷ rest) once = apart once.0
  plan_answers (self_help_of names ∷ manual_on ∷ []) once =
      record { passes = record { words = refl; options = refl; last = refl }; asks = refl }
  plan_answers (self_help_of names ∷ manual_on ∷ setup_to file ∷ []) once =
      record { passes = record { words = refl; options = refl; last = refl }; asks = refl }
  plan_answers (self_help_of names ∷ manual_on ∷ setup_to file ∷ setup_to other ∷ rest) once = apart once.1.1.0
  plan_answers (self_help_of names ∷ manual_on ∷ setup_to file ∷ manual_on ∷ rest) once = apart once.1.0
  plan_answers (self_help_of names ∷ manual_on ∷ setup_to file ∷ self_help_of others ∷ rest) once = apart once.0
  plan_answers (self_help_of names ∷ manual_on ∷ manual_on ∷ rest) once = apart once.1.0
  plan_answers (self_help_of names ∷ manual_on ∷ self_help_of others ∷ rest) once = apart once.0
  plan_answers (self_help_of names ∷ self_help_of others ∷ rest) once = apart once.0
