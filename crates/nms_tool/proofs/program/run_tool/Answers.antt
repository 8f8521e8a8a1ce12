-- `run_tool`: clauses `told`, `done` and `not_confirmed`; the last two by `ended_done` and `ended_judged`.
use Rattle.std.proofs.Common.{arith, Bor, List, ℕ, map, sym}
use Rattle.std.proofs.lemmas.Grind.{common_steps}
use Rattle.nms_tool.proofs.ServedFacts.{ended_done, ended_judged}
use Rattle.nms_tool.proofs.program.run_tool.Goals as goal

pub returns-in-Ok-clause-done : goal.returns-in-Ok-clause-done
returns-in-Ok-clause-done g c =
    ended_done c.in-Ok.ending c.status.result (map {A = Bor (List ℕ)} {B = List ℕ} (λ word. word.now) c.args.words.now)
    (g.R.Read.remaining c.args.input)
    (g.W.Write.contents c.args.answers.now) (g.W.Write.contents c.serve.new.answers) c.status.ensures c.in-Ok.ensures.done

pub returns-in-Ok-clause-not_confirmed : goal.returns-in-Ok-clause-not_confirmed
returns-in-Ok-clause-not_confirmed g c =
    ended_judged c.in-Ok.ending c.status.result (map {A = Bor (List ℕ)} {B = List ℕ} (λ word. word.now) c.args.words.now)
    (g.R.Read.remaining c.args.input)
    (g.W.Write.contents c.args.answers.now) (g.W.Write.contents c.serve.new.answers) c.status.ensures c.in-Ok.ensures.done

pub returns-clause-told : goal.returns-clause-told
returns-clause-told g c not_done not_judged = record {
  told = record { fault = c.in-Err.fault; status_is = sym c.tell_fault.ensures.status; told = c.tell_fault.ensures.told };
  left = c.in-Err.ensures.left;
}

-- ---- goals that `grind` closes; the search that is tried before it takes longer

pub returns-clause-known : goal.returns-clause-known
returns-clause-known g c = grind (arith, common_steps)

pub returns-clause-not_confirmed : goal.returns-clause-not_confirmed
returns-clause-not_confirmed g c = grind (arith, common_steps)

pub returns-in-Ok-clause-known : goal.returns-in-Ok-clause-known
returns-in-Ok-clause-known g c = grind (arith, common_steps)

pub returns-in-Ok-clause-told : goal.returns-in-Ok-clause-told
returns-in-Ok-clause-told g c = grind (arith, common_steps)
