-- `trim_start`: what std says of it fixes its result.
use Rattle.nms_explain_toml.proofs.BlankFacts.{trim_start_is}
use Rattle.nms_explain_toml.proofs.blanks.trim_start.Goals as goal

pub returns-clause-value : goal.returns-clause-value
returns-clause-value c = trim_start_is c.args.text.now c.trim_ascii_start.result.now c.trim_ascii_start.ensures.value
