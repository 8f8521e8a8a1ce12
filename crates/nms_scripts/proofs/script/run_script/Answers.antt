-- `run_script`: clause `stopped`, by `answers_nothing`.
use Rattle.std.proofs.Common.{arith, ◌≢◌, sym, ◌∙◌}
use Rattle.std.proofs.lemmas.Grind.{common_steps}
use Rattle.nms_text.specs.declared.script_fault.ScriptFault.TheVariants as fault
use Rattle.nms_scripts.proofs.ProgressFacts.{answers_nothing}
use Rattle.nms_scripts.proofs.script.run_script.Goals as goal

no_memory : fault.NoMemory ≢ fault.TooLong
no_memory e = cc

pub returns-clause-stopped : goal.returns-clause-stopped
returns-clause-stopped g c _ = answers_nothing c.args.setup.now (g.R.Read.remaining c.args.reader) (g.W.Write.contents c.args.writer.now)
    c.in-Err.fault (λ e. no_memory (sym c.in-Err.ensures.memory ∙ e))

-- ---- goals that `grind` closes; the search that is tried before it takes longer

pub returns-clause-cut : goal.returns-clause-cut
returns-clause-cut g c = grind (arith, common_steps)
