-- `read_words`: each clause, by what clap says of a command line as simple as this one.
use Rattle.std.proofs.Common.{◌∙◌, IfErr, IfOk, List, ap, map, subst}
use Rattle.std.proofs.lemmas.Result.{IfErr-weaker, IfOk-weaker}
use Rattle.clap.specs.Words.{App, HasKind, Row, fault_of, is_simple, is_simple_and_free, matches_of}
use Rattle.nms_serve.specs.CommandLine.{IsAsked, IsFaultOf, given_in, shown}
use Rattle.nms_serve.proofs.Refusals.{among, exact, faultless, given_fault, simple}
use Rattle.nms_serve.proofs.RightWords.{answered, only_memory}
use Rattle.nms_serve.proofs.words.command_words.read_words.Goals as goal

pub returns-in-Ok-try_get_matches_from-clause-read : goal.returns-in-Ok-try_get_matches_from-clause-read
returns-in-Ok-try_get_matches_from-clause-read c =
    let command = c.in-Ok.ensures in
    let words = map (λ word. word.now) c.args.words.now in
    let met = (c.in-Ok-try_get_matches_from.ensures.matches (ap is_simple command ∙ simple)).0 ∙ ap (λ (a : App). matches_of a words) command in
    subst (λ (rows : List Row). IfOk c.request_in.result (λ request. IsAsked (given_in rows) (shown request))) met c.request_in.ensures.read

pub returns-in-Ok-try_get_matches_from-clause-accepted : goal.returns-in-Ok-try_get_matches_from-clause-accepted
returns-in-Ok-try_get_matches_from-clause-accepted c = IfOk-weaker c.request_in.result _ _
    (λ _ _. faultless _ (map (λ word. word.now) c.args.words.now) c.in-Ok.ensures c.in-Ok-try_get_matches_from.ensures.kinds)
    c.request_in.ensures.read

pub returns-in-Ok-try_get_matches_from-clause-refused : goal.returns-in-Ok-try_get_matches_from-clause-refused
returns-in-Ok-try_get_matches_from-clause-refused c =
    let command = c.in-Ok.ensures in
    let words = map (λ word. word.now) c.args.words.now in
    let met = (c.in-Ok-try_get_matches_from.ensures.matches (ap is_simple command ∙ simple)).0 ∙ ap (λ (a : App). matches_of a words) command in
    IfErr-weaker c.request_in.result _ _
    (λ why is. given_fault words why (faultless _ words command c.in-Ok-try_get_matches_from.ensures.kinds) is)
    (subst (λ (rows : List Row). IfErr c.request_in.result (IsFaultOf (given_in rows))) met c.request_in.ensures.refused)

pub returns-in-Err-try_get_matches_from-clause-refused : goal.returns-in-Err-try_get_matches_from-clause-refused
returns-in-Err-try_get_matches_from-clause-refused c =
    let command = c.in-Ok.ensures in
    let words = map (λ word. word.now) c.args.words.now in
    let has = subst (λ (app : App). HasKind (fault_of app words) c.in-Err-try_get_matches_from.error) command
    (c.in-Err-try_get_matches_from.ensures.kinds (ap is_simple_and_free command ∙ exact)) in
    among words c.in-Err-try_get_matches_from.error c.fault_of.result has c.fault_of.ensures.memory c.fault_of.ensures.refused

pub returns-in-Ok-try_get_matches_from-clause-answered : goal.returns-in-Ok-try_get_matches_from-clause-answered
returns-in-Ok-try_get_matches_from-clause-answered c = λ asked none is.
    answered c.request_in.result (map (λ word. word.now) c.args.words.now) asked none is
    (returns-in-Ok-try_get_matches_from-clause-read c) (returns-in-Ok-try_get_matches_from-clause-refused c)

pub returns-in-Err-try_get_matches_from-clause-answered : goal.returns-in-Err-try_get_matches_from-clause-answered
returns-in-Err-try_get_matches_from-clause-answered c = λ asked none is.
    only_memory (map (λ word. word.now) c.args.words.now) asked c.fault_of.result none is (returns-in-Err-try_get_matches_from-clause-refused c)
