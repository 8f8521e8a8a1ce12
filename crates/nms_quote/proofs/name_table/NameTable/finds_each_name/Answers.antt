-- `NameTable::finds_each_name`: all that it promises, by `place_in-own`.
use Rattle.nms_quote.proofs.TableLemmas.{place_in-own}
use Rattle.nms_quote.proofs.name_table.NameTable.finds_each_name.Goals as goal

pub returns : goal.returns
returns g c = λ place name at. place_in-own c.self.inside.entries.entries c.self.invariant.0 c.args.self.now c.self.view_is place name at
