-- `earlier_named`: that the names are known with one element more, from `NamedLemmas`.
use Rattle.std.proofs.Common.{length, map, sym}
use Rattle.std.proofs.lemmas.List.{length-map}
use Rattle.toml.specs.View.{view}
use Rattle.nms_setup_places.proofs.NamedLemmas.{knows-again, knows-more, knows-unnamed}
use Rattle.nms_setup_places.proofs.naming.earlier_named.Goals as goal

pub returns-in_default-clause-known : goal.returns-in_default-clause-known
returns-in_default-clause-known c =
    knows-unnamed c.args.known.now (map view c.args.before.now) (view c.args.row.now) c.requires.known (sym c.in_default.ensures)

pub returns-in-Some-get-clause-known : goal.returns-in-Some-get-clause-known
returns-in-Some-get-clause-known c =
    knows-again c.args.known.now (map view c.args.before.now) (view c.args.row.now) c.requires.known c.in-Some.name
    (sym c.in-Some.ensures) c.in-Some-get.first.now (sym c.in-Some-get.ensures.value)

pub returns-in-Ok-clause-known : goal.returns-in-Ok-clause-known
returns-in-Ok-clause-known c =
    knows-more c.args.known.now (map view c.args.before.now) (view c.args.row.now) c.requires.known c.in-Some.name
    (sym c.in-Some.ensures) c.insert.new.self (length c.args.before.now) (sym (length-map c.args.before.now view))
    (sym c.in_default-get.ensures.value) (c.in-Ok.ensures.updates.0)
