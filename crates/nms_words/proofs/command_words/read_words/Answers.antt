-- `read_words`: clauses `counted`, `no_words` and `plain`, by `own_counted`, `IsTaken`, `nothing` and
-- `plain_taken`.
use Rattle.std.proofs.Common.{◌≡◌, ◌∙◌, Bor, List, Result, true, IfOk, IfErr, MatchResult, Some, map, subst, sym}
use Rattle.std.proofs.lemmas.List.{length-map}
use Rattle.std.proofs.lemmas.Result.{IfOk-weaker, MatchResult-from_both}
use Rattle.std.specs.String.{string_bytes}
use Rattle.clap.specs.Words.{Text, subcommand_of, takes}
use Rattle.nms_words.specs.CommandLine.{AreCounted, Asked, asked_by, script_alone, shown, tool}
use Rattle.nms_words.specs.declared.request.Request.{Request}
use Rattle.nms_words.specs.declared.words_fault.WordsFault.{WordsFault}
use Rattle.nms_words.specs.declared.words_fault.WordsFault.TheVariants.{NoMemory}
use Rattle.nms_words.proofs.Counted.{own_counted}
use Rattle.nms_words.proofs.PlainCalls.{IsTaken, nothing, plain_taken}
use Rattle.nms_words.proofs.command_words.read_words.Goals as goal

abbrev texts : List (Bor Text) → List Text
texts = map (λ word. word.now)

-- arguments that the parser takes are refused only if out of memory
answered : (result : Result Request WordsFault) (words : List Text) (asked : Asked) → IsTaken words asked
    → IfOk result (λ request. asked_by words ≡ Some (shown request))
    → (takes tool words ≡ true → IfErr result (λ fault. fault ≡ NoMemory))
    → MatchResult result (λ request. shown request ≡ asked) (λ fault. fault ≡ NoMemory)
answered result words asked is read taken = MatchResult-from_both result _ _
    (IfOk-weaker result _ _ (λ request e. let same : Some (shown request) ≡ Some asked = sym e ∙ is.asked_for in cc) read)
    (taken is.taken)

pub returns-clause-counted : goal.returns-clause-counted
returns-clause-counted c = IfOk-weaker c.parse_words.result _ _
    (λ request is. subst (AreCounted request.command) (sym (request.words.ok.0 ∙ sym (length-map request.words.items string_bytes)))
    (own_counted (subcommand_of tool (texts c.args.words.now)) (shown request) is))
    c.parse_words.ensures.read

pub returns-clause-no_words : goal.returns-clause-no_words
returns-clause-no_words c = λ none. answered c.parse_words.result (texts c.args.words.now) script_alone
    (subst (λ (words : List (Bor Text)). IsTaken (texts words) script_alone) (sym none) nothing)
    c.parse_words.ensures.read c.parse_words.ensures.taken

pub returns-clause-plain : goal.returns-clause-plain
returns-clause-plain c = λ asked plain. answered c.parse_words.result (texts c.args.words.now) asked
    (plain_taken (texts c.args.words.now) asked plain)
    c.parse_words.ensures.read c.parse_words.ensures.taken
