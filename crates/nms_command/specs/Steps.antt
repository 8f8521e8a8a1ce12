-- What the arguments of the command line came to, before a live run: a request of any other subcommand was done, help was shown, or
-- what a live run is given was read. This product's own rule.
use Rattle.std.specs.Prelude.{ℕ, ◌≡◌, ◌<◌, ◌≤◌, ◌+◌, ◌⊎◌, All, Bool, true, false, List, [], Option, Some, length}
use Rattle.std.specs.String.{string_bytes}
use Rattle.std.specs.Io.KnownBytes.{Appends}
use Rattle.nms_fees.specs.Settings.{Settings}
use Rattle.nms_words.specs.CommandLine.{Asked, IsRefusal, asked_by, faults_in}
use Rattle.nms_words.specs.declared.subcommand.Sub.TheVariants as sub
use Rattle.nms_words.specs.declared.words_fault.WordsFault.{WordsFault}
use Rattle.nms_words.specs.declared.words_fault.WordsFault.TheVariants as words_fault
use Rattle.nms_command.specs.LiveFiles.{AreOrdersOfSome, most_feed_bytes}
use Rattle.nms_command.specs.Served.{IsSetup, Serves}
use Rattle.nms_command.specs.declared.ending.Ending.TheVariants as ending
use Rattle.nms_command.specs.declared.live_input.LiveInput.{LiveInput}
use Rattle.nms_command.specs.declared.step.Step.{Step}
use Rattle.nms_command.specs.declared.step.Step.TheVariants as step

-- whether a refusal of the arguments is the help, or the version, that they ask for
abbrev pub is_help : WordsFault → Bool
is_help (words_fault.Parser text help) = help
is_help words_fault.NoMemory = false

-- the parser's text
abbrev pub text_in : WordsFault → List ℕ
text_in (words_fault.Parser text help) = string_bytes text
text_in words_fault.NoMemory = []

-- the arguments ask for help, or for the version, and the parser's text of it was written, and nothing else
abbrev pub ShowsHelp : List (List ℕ) → Option (List ℕ) → Option (List ℕ) → Type 0
ShowsHelp words old new =
    (why : WordsFault) × (is_help why ≡ true) × IsRefusal (faults_in words) why × Appends old new (text_in why)

-- a live run is asked for, and this is what it is given: a setup, a text of at most 1,000,000,000 bytes for each feed, and the
-- orders of some file, each of them for one of the desks. The arguments name n files
pub record AsksRun (asked : Asked) (settings : Settings) (input : LiveInput) : Type 0 where
  pub live : asked.command ≡ sub.Live
  pub setup : IsSetup settings
  pub files : length asked.own ≡ 1 + settings.feeds
  pub feeds : length input.feeds.items ≡ settings.feeds
  pub within : All (λ feed. length feed.items ≤ most_feed_bytes) input.feeds.items
  pub orders : AreOrdersOfSome settings input.orders.items
  pub desks : All (λ order. order.desk < settings.desks) input.orders.items

-- the request was served under some setup; or it is of a live run, and nothing is written yet
abbrev pub Meets : Asked → Option (List ℕ) → Option (List ℕ) → Option (List ℕ) → Step → Type 0
Meets asked input old new (step.Ended ends) = (settings : Settings) × IsSetup settings × Serves asked.command settings asked input old new ends
Meets asked input old new (step.Live setup given) = AsksRun asked setup given × (new ≡ old)

-- the request that the arguments are was served, as above
abbrev pub MeetsWords : List (List ℕ) → Option (List ℕ) → Option (List ℕ) → Option (List ℕ) → Step → Type 0
MeetsWords words input old new step = (asked : Asked) × (asked_by words ≡ Some asked) × Meets asked input old new step

-- what the arguments ask for was met: the request that they are, or help was shown
abbrev pub AreMet : List (List ℕ) → Option (List ℕ) → Option (List ℕ) → Option (List ℕ) → Step → Type 0
AreMet words input old new (step.Ended ends) = MeetsWords words input old new (step.Ended ends) ⊎ ((ends ≡ ending.Done) × ShowsHelp words old new)
AreMet words input old new (step.Live setup given) = MeetsWords words input old new (step.Live setup given)
