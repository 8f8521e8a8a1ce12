-- `trim_end`: what std says of it fixes its result.
use Rattle.nms_explain_toml.proofs.BlankFacts.{trim_end_is}
use Rattle.nms_explain_toml.proofs.blanks.trim_end.Goals as goal

pub returns-clause-value : goal.returns-clause-value
returns-clause-value c = trim_end_is c.args.text.now c.trim_ascii_end.result.now c.trim_ascii_end.ensures.value
