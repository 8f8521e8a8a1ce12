-- What the parser finds in words that are written out, and what values give: worked examples of `specs/CommandLine` and
-- `specs/Values`.
use Rattle.std.proofs.Common.{◌≡◌, true, false, [], ◌∷◌, Some, None, codes, refl}
use Rattle.clap.specs.declared.error.kind.ErrorKind.TheVariants.{DisplayHelp, DisplayVersion, DisplayHelpOnMissingArgumentOrSubcommand}
use Rattle.clap.specs.declared.error.kind.ErrorKind.TheVariants.{MissingRequiredArgument, UnknownArgument}
use Rattle.clap.proofs.OnLiterals.{clap_on_literals}
use Rattle.nms_serve.specs.CommandLine.{faults_in, given_by}
use Rattle.nms_serve.specs.Values.{client_of, clients_of, feed_of, feeds_of, seconds_of, share_path}

-- ---- words

help : faults_in (codes "--help" ∷ []) ≡ DisplayHelp ∷ []
unfolding clap_on_literals
help = refl

version : faults_in (codes "--version" ∷ []) ≡ DisplayVersion ∷ []
unfolding clap_on_literals
version = refl

no_words : faults_in [] ≡ DisplayHelpOnMissingArgumentOrSubcommand ∷ []
unfolding clap_on_literals
no_words = refl

no_tape : faults_in (codes "--feed" ∷ codes "A=a" ∷ []) ≡ MissingRequiredArgument ∷ []
unfolding clap_on_literals
no_tape = refl

no_feed : faults_in (codes "--tape" ∷ codes "t" ∷ []) ≡ MissingRequiredArgument ∷ []
unfolding clap_on_literals
no_feed = refl

other_word : faults_in (codes "--feed" ∷ codes "A=a" ∷ codes "--tape" ∷ codes "t" ∷ codes "x" ∷ []) ≡ UnknownArgument ∷ []
unfolding clap_on_literals
other_word = refl

taken : faults_in (codes "--feed" ∷ codes "A=a" ∷ codes "--tape" ∷ codes "t" ∷ codes "--feed=B=b" ∷ codes "--wait" ∷ []) ≡ []
unfolding clap_on_literals
taken = refl

given : given_by (codes "--feed" ∷ codes "A=a" ∷ codes "--tape" ∷ codes "t" ∷ codes "--feed=B=b" ∷ codes "--wait" ∷ []) ≡ record {
  setup = None;
  feeds = codes "A=a" ∷ codes "B=b" ∷ [];
  clients = [];
  tape = codes "t";
  strict = false;
  keep = false;
  wait = true;
  stale = None;
  resume = false;
  check = false;
  status = None;
  ready = None;
  log_time = false;
  times = None;
  recorded = None;
  sync = None;
}
unfolding clap_on_literals
given = refl

-- ---- values

two_feeds : feeds_of (codes "B=b" ∷ codes "A=a=c" ∷ [])
    ≡ Some (record { place = 1; path = codes "b" } ∷ record { place = 0; path = codes "a=c" } ∷ [])
two_feeds = refl

same_letter : feeds_of (codes "A=a" ∷ codes "A=b" ∷ []) ≡ None
same_letter = refl

letter_past_h : feed_of (codes "I=a") ≡ None
letter_past_h = refl

small_letter : feed_of (codes "a=a") ≡ None
small_letter = refl

no_path : feed_of (codes "A=") ≡ None
no_path = refl

two_letters : feed_of (codes "AB=a") ≡ None
two_letters = refl

one_client : clients_of (codes "i,o" ∷ []) ≡ Some (record { input = codes "i"; output = codes "o" } ∷ [])
one_client = refl

one_path : client_of (codes "i") ≡ None
one_path = refl

three_paths : client_of (codes "i,o,p") ≡ None
three_paths = refl

no_output : client_of (codes "i,") ≡ None
no_output = refl

tape_written : share_path (record { input = codes "i"; output = codes "t" } ∷ []) (codes "t") ≡ true
tape_written = refl

-- a path may be read and written
read_and_written : share_path (record { input = codes "i"; output = codes "o" } ∷ record { input = codes "o"; output = codes "i" } ∷ [])
    (codes "t") ≡ false
read_and_written = refl

one_day : seconds_of (codes "86400") ≡ Some 86400
one_day = refl

more_than_a_day : seconds_of (codes "86401") ≡ None
more_than_a_day = refl

leading_zeros : seconds_of (codes "005") ≡ Some 5
leading_zeros = refl

no_seconds : seconds_of (codes "0") ≡ None
no_seconds = refl

a_sign : seconds_of (codes "+5") ≡ None
a_sign = refl

no_digits : seconds_of [] ≡ None
no_digits = refl
