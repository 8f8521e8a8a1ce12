-- `NameTable::name_at`: clauses `name`, `found` and `once`, by `name_at-named` and `place_in-own`.
use Rattle.std.proofs.Common.{Some, ap, sym, ◌∙◌}
use Rattle.std.proofs.lemmas.Option.{same_Some}
use Rattle.std.specs.Map.Iter.{deref_pair}
use Rattle.std.specs.Option.{option_map}
use Rattle.nms_quote.proofs.TableLemmas.{name_at-named, place_in-own}
use Rattle.nms_quote.proofs.name_table.NameTable.name_at.Goals as goal

pub returns-clause-name : goal.returns-clause-name
returns-clause-name g c =
    name_at-named c.self.inside.entries.entries c.args.self.now c.self.view_is c.args.place c.unwrap.result.0.now c.unwrap.result.1.now
    (sym c.get_index.ensures.entry ∙ ap (option_map deref_pair) c.unwrap.ensures)
    ∙ ap Some (sym c.as_str.ensures.value)

pub returns-clause-found : goal.returns-clause-found
returns-clause-found g c =
    place_in-own c.self.inside.entries.entries c.self.invariant.0 c.args.self.now c.self.view_is c.args.place c.as_str.result.now
    (returns-clause-name g c)

pub returns-clause-once : goal.returns-clause-once
returns-clause-once g c = λ other at.
    same_Some other c.args.place (sym (place_in-own c.self.inside.entries.entries c.self.invariant.0 c.args.self.now c.self.view_is other
    c.as_str.result.now at) ∙ returns-clause-found g c)
