-- What the parser finds in words that are written out.
use Rattle.std.proofs.Common.{◌≡◌, [], ◌∷◌, codes, refl}
use Rattle.clap.specs.declared.error.kind.ErrorKind.TheVariants.{DisplayHelp, DisplayVersion, InvalidSubcommand, MissingRequiredArgument}
use Rattle.clap.specs.declared.error.kind.ErrorKind.TheVariants.{UnknownArgument}
use Rattle.clap.proofs.OnLiterals.{clap_on_literals}
use Rattle.nms_words.specs.CommandLine.{faults_in}

help : faults_in (codes "--help" ∷ []) ≡ DisplayHelp ∷ []
unfolding clap_on_literals
help = refl

version : faults_in (codes "--version" ∷ []) ≡ DisplayVersion ∷ []
unfolding clap_on_literals
version = refl

no_subcommand : faults_in (codes "bogus" ∷ []) ≡ UnknownArgument ∷ InvalidSubcommand ∷ []
unfolding clap_on_literals
no_subcommand = refl

word_too_many : faults_in (codes "report" ∷ codes "a" ∷ codes "b" ∷ codes "c" ∷ []) ≡ UnknownArgument ∷ []
unfolding clap_on_literals
word_too_many = refl

word_too_few : faults_in (codes "report" ∷ codes "a" ∷ []) ≡ MissingRequiredArgument ∷ []
unfolding clap_on_literals
word_too_few = refl

option_first : faults_in (codes "--setup" ∷ codes "K.toml" ∷ codes "script" ∷ []) ≡ UnknownArgument ∷ []
unfolding clap_on_literals
option_first = refl
