-- What is answered of words that are no request.
use Rattle.std.proofs.Common.{◌≡◌, ◌∙◌, true, List, [], ◌∷◌, inl, inr, ap, subst, sym, refl}
use Rattle.clap.specs.Words.{App, HasKind, IsAmong, Text, fault_of, is_simple, is_simple_and_free, kind_of}
use Rattle.clap.specs.declared.error.Error.{Error}
use Rattle.clap.specs.declared.error.kind.ErrorKind.TheVariants.{OutOfMemory}
use Rattle.clap.proofs.OnLiterals.{clap_on_literals}
use Rattle.nms_serve.specs.CommandLine.{IsFaultOf, IsParserFault, IsRefusal, faults_in, given_by, serve}
use Rattle.nms_serve.specs.declared.words.words_fault.WordsFault.{WordsFault}
use Rattle.nms_serve.specs.declared.words.words_fault.WordsFault.TheVariants as fault

-- the parser's account is exact for this command line
pub exact : is_simple_and_free serve ≡ true
unfolding clap_on_literals
exact = refl

pub simple : is_simple serve ≡ true
simple = refl

-- what is reported of one kind is reported of words with that kind among theirs
pub among : (words : List Text) (error : Error) (why : WordsFault) → HasKind (faults_in words) error
    → (kind_of error ≡ OutOfMemory → why ≡ fault.NoMemory) → IsParserFault (kind_of error ∷ []) why → IsRefusal words why
among words error fault.NoMemory has memory is = tt
among words error (fault.Parser text help) (inl out) memory is = let no : fault.Parser text help ≡ fault.NoMemory = memory out in cc
among words error (fault.Parser text help) (inr has) memory (kind, inl same, told) =
    (kind, subst (λ k. IsAmong k (faults_in words)) (sym same) has, told)
among words error (fault.Parser text help) (inr has) memory (kind, inr none, told) = elim none [ ]
among words error fault.FeedForm has memory is = elim is [ ]
among words error fault.FeedTwice has memory is = elim is [ ]
among words error fault.ClientForm has memory is = elim is [ ]
among words error fault.PathTwice has memory is = elim is [ ]
among words error fault.StaleForm has memory is = elim is [ ]

-- the arguments are those without fault
pub faultless : (app : App) (words : List Text) → app ≡ serve → (is_simple_and_free app ≡ true → fault_of app words ≡ [])
    → faults_in words ≡ []
faultless app words command kinds = ap (λ (a : App). fault_of a words) (sym command) ∙ kinds (ap is_simple_and_free command ∙ exact)

-- a fault of what the arguments give, if the parser finds none in them
pub given_fault : (words : List Text) (why : WordsFault) → faults_in words ≡ [] → IsFaultOf (given_by words) why → IsRefusal words why
given_fault words (fault.Parser text help) none is = elim is [ ]
given_fault words fault.NoMemory none is = tt
given_fault words fault.FeedForm none is = (none, is)
given_fault words fault.FeedTwice none is = (none, is)
given_fault words fault.ClientForm none is = (none, is)
given_fault words fault.PathTwice none is = (none, is)
given_fault words fault.StaleForm none is = (none, is)
