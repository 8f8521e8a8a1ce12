-- `a_served_run_is_its_scripts`: by `run_is_scripts`.
use Rattle.nms_answers.proofs.WholeFacts.{run_is_scripts}
use Rattle.nms_answers.proofs.served_laws.a_served_run_is_its_scripts.Goals as goal

pub returns : goal.returns
returns c = run_is_scripts c.args.setup.now c.a_served_epoch_is_a_script.ensures
