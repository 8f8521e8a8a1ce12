-- `parse_words`: clauses `read`, `accepted`, `refused` and `taken` and the call of `request_in`, by
-- `accepted_asks`.
use Rattle.std.proofs.Common.{arith, ◌≡◌, ◌∙◌, true, List, [], ◌∷◌, Option, is_some, inl, inr, ap, subst, sym, refl, map}
use Rattle.std.proofs.lemmas.Grind.{common_steps}
use Rattle.clap.specs.Words.{App, HasKind, IsAmong, Kinds, Row, Text, fault_of, is_simple, is_simple_and_free, kind_of, subcommand_of}
use Rattle.clap.specs.Words.{takes}
use Rattle.clap.specs.declared.error.Error.{Error}
use Rattle.clap.specs.declared.error.kind.ErrorKind.TheVariants.{OutOfMemory}
use Rattle.clap.proofs.OnLiterals.{clap_on_literals}
use Rattle.nms_words.specs.CommandLine.{IsRefusal, asked_of, faults_in, tool}
use Rattle.nms_words.proofs.AcceptedWords.{accepted_asks}
use Rattle.nms_words.specs.declared.words_fault.WordsFault.{WordsFault}
use Rattle.nms_words.specs.declared.words_fault.WordsFault.TheVariants.{Parser, NoMemory}
use Rattle.nms_words.proofs.command_words.parse_words.Goals as goal

-- the parser's account is exact for this command line
exact : is_simple_and_free tool ≡ true
unfolding clap_on_literals
exact = refl

simple : is_simple tool ≡ true
simple = refl

-- what is reported of one kind is reported of more
among : (kinds : Kinds) (error : Error) (fault : WordsFault) → HasKind kinds error → (kind_of error ≡ OutOfMemory → fault ≡ NoMemory)
    → IsRefusal (kind_of error ∷ []) fault → IsRefusal kinds fault
among kinds error NoMemory has memory refusal = tt
among kinds error (Parser text help) (inl out) memory refusal = let no : Parser text help ≡ NoMemory = memory out in cc
among kinds error (Parser text help) (inr is) memory (kind, inl same, told) = (kind, subst (λ k. IsAmong k kinds) (sym same) is, told)
among kinds error (Parser text help) (inr is) memory (kind, inr none, told) = elim none [ ]

-- the matches are those of words without fault
faultless : (app : App) (words : List Text) → app ≡ tool → (is_simple_and_free app ≡ true → fault_of app words ≡ []) → faults_in words ≡ []
faultless app words command kinds = ap (λ (a : App). fault_of a words) (sym command) ∙ kinds (ap is_simple_and_free command ∙ exact)

pub request_in-requires : goal.request_in-requires
request_in-requires c =
    let command = c.in_ok-tool_command.ensures in
    let words = map (λ word. word.now) c.args.words.now in
    let met = (c.in-Ok.ensures.matches (ap is_simple command ∙ simple)).1 ∙ ap (λ (a : App). subcommand_of a words) command in
    ap (λ (rows : Option (Text × List Row)). is_some (asked_of rows)) met
    ∙ accepted_asks words (faultless _ words command c.in-Ok.ensures.kinds)

pub returns-in_ok-request_in-in-Ok-clause-read : goal.returns-in_ok-request_in-in-Ok-clause-read
returns-in_ok-request_in-in-Ok-clause-read c =
    let command = c.in_ok-tool_command.ensures in
    let words = map (λ word. word.now) c.args.words.now in
    let met = (c.in-Ok.ensures.matches (ap is_simple command ∙ simple)).1 ∙ ap (λ (a : App). subcommand_of a words) command in
    ap asked_of (sym met) ∙ c.in_ok-request_in-in-Ok.ensures

pub returns-in_ok-request_in-in-Ok-clause-accepted : goal.returns-in_ok-request_in-in-Ok-clause-accepted
returns-in_ok-request_in-in-Ok-clause-accepted c =
    faultless _ (map (λ word. word.now) c.args.words.now) c.in_ok-tool_command.ensures c.in-Ok.ensures.kinds

pub returns-in-Err-clause-refused : goal.returns-in-Err-clause-refused
returns-in-Err-clause-refused c =
    let command = c.in_ok-tool_command.ensures in
    let words = map (λ word. word.now) c.args.words.now in
    let has = subst (λ (app : App). HasKind (fault_of app words) c.in-Err.error) command
    (c.in-Err.ensures.kinds (ap is_simple_and_free command ∙ exact)) in
    among (fault_of tool words) c.in-Err.error c.fault_of.result has c.fault_of.ensures.memory c.fault_of.ensures.refused

pub returns-in-Err-clause-taken : goal.returns-in-Err-clause-taken
returns-in-Err-clause-taken c = λ taken.
    c.fault_of.ensures.memory (c.in-Err.ensures.passes
    (ap (λ (app : App). takes app (map (λ word. word.now) c.args.words.now)) c.in_ok-tool_command.ensures ∙ taken))

-- ---- goals that `grind` closes; the search that is tried before it takes longer

pub returns-in_ok-request_in-in-Ok-clause-refused : goal.returns-in_ok-request_in-in-Ok-clause-refused
returns-in_ok-request_in-in-Ok-clause-refused c = grind (arith, common_steps)

pub returns-in_ok-request_in-in-Ok-clause-taken : goal.returns-in_ok-request_in-in-Ok-clause-taken
returns-in_ok-request_in-in-Ok-clause-taken c = grind (arith, common_steps)
