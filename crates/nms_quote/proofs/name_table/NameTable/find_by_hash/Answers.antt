-- `NameTable::find_by_hash`: clause `place`, by `place_in-named` and `place_in-not_utf8`.
use Rattle.std.proofs.Common.{sym, ap, ◌∙◌}
use Rattle.nms_quote.specs.Names.{named}
use Rattle.nms_quote.specs.Roster.{place_in}
use Rattle.nms_quote.proofs.TableLemmas.{place_in-named, place_in-not_utf8}
use Rattle.nms_quote.proofs.name_table.NameTable.find_by_hash.Goals as goal

pub returns-in-Ok-clause-place : goal.returns-in-Ok-clause-place
returns-in-Ok-clause-place g c =
    c.get_index_of.ensures.index
    ∙ sym (place_in-named c.in-Ok.text.now c.self.inside.entries.entries)
    ∙ ap (λ name. place_in (named c.self.inside.entries.entries) name) c.in-Ok.ensures.cases.0
    ∙ ap (λ table. place_in table c.args.name.now) c.self.view_is

pub returns-in-Err-clause-place : goal.returns-in-Err-clause-place
returns-in-Err-clause-place g c =
    sym (ap (λ table. place_in table c.args.name.now) (sym c.self.view_is)
    ∙ place_in-not_utf8 c.args.name.now c.self.inside.entries.entries c.in-Err.ensures.cases.0)
