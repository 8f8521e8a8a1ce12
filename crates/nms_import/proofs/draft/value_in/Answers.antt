-- `value_in`: its result, from what the table gives.
use Rattle.toml.proofs.Views.{table_get}
use Rattle.nms_import.proofs.draft.value_in.Goals as goal

pub returns : goal.returns
returns c = table_get c.get.result c.args.key.now c.args.table.now.entries c.get.ensures.value
