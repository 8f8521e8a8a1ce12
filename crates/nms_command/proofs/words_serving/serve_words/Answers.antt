-- `serve_words`: clause `left` of a request, by `words_stopped`.
use Rattle.std.proofs.Common.{arith, Bor, List, ℕ, map}
use Rattle.std.proofs.lemmas.Grind.{common_steps}
use Rattle.nms_words.specs.CommandLine.{shown}
use Rattle.nms_command.proofs.FailedFacts.{words_stopped}
use Rattle.nms_command.proofs.words_serving.serve_words.Goals as goal

pub returns-in-Ok-clause-left : goal.returns-in-Ok-clause-left
returns-in-Ok-clause-left g c =
    words_stopped c.serve_request.result (map {A = Bor (List ℕ)} {B = List ℕ} (λ word. word.now) c.args.words.now) (shown c.in-Ok.request)
    (g.R.Read.remaining c.args.input.now) (g.W.Write.contents c.args.answers.now) (g.W.Write.contents c.serve_request.new.answers)
    c.in-Ok.ensures.read c.serve_request.ensures.left

-- ---- goals that `grind` closes; the search that is tried before it takes longer

pub returns-in_ok-show_help-in-Err-Parser-default-true-clause-met : goal.returns-in_ok-show_help-in-Err-Parser-default-true-clause-met
returns-in_ok-show_help-in-Err-Parser-default-true-clause-met g c = grind (arith, common_steps)

pub enum_noted-fault : goal.enum_noted-fault
enum_noted-fault g c = grind (arith, common_steps)

pub returns-in-Err-clause-left : goal.returns-in-Err-clause-left
returns-in-Err-clause-left g c = grind (arith, common_steps)

pub returns-in_ok-show_help-in-Err-Parser-default-true-clause-left : goal.returns-in_ok-show_help-in-Err-Parser-default-true-clause-left
returns-in_ok-show_help-in-Err-Parser-default-true-clause-left g c = grind (arith, common_steps)

pub narrow-fault : goal.narrow-fault
narrow-fault g c = grind (arith, common_steps)
