-- `rows_in`: its result, by cases on the value.
use Rattle.std.proofs.Common.{arith, option_map, map, Some, ap, sym, ◌∙◌}
use Rattle.std.proofs.lemmas.Grind.{common_steps}
use Rattle.nms_fees.proofs.TableLemmas.{listed-view}
use Rattle.nms_fees.specs.Places.{listed}
use Rattle.toml.specs.View.{view}
use Rattle.nms_fees.proofs.toml_table.rows_in.Goals as goal

pub returns-in-Some : goal.returns-in-Some
returns-in-Some c =
    ap (λ rows. Some (map view rows)) c.as_slice.ensures.value
    ∙ ap (λ rows. Some rows) (sym (listed-view c.in-Some.rows.now.items))
    ∙ ap (option_map listed) c.in-Some.ensures

-- ---- goals that `grind` closes; the search that is tried before it takes longer

pub returns-in-None : goal.returns-in-None
returns-in-None c = grind (arith, common_steps)
