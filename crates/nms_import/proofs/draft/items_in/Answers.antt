-- `items_in`: its result, by cases on the value.
use Rattle.std.proofs.Common.{option_map, map, Some, ap, sym, ◌∙◌}
use Rattle.nms_import.proofs.NameFacts.{listed_view}
use Rattle.nms_import.specs.Drafts.{listed}
use Rattle.toml.specs.View.{view}
use Rattle.nms_import.proofs.draft.items_in.Goals as goal

pub returns-in-Some : goal.returns-in-Some
returns-in-Some c =
    ap (λ items. Some (map view items)) c.as_slice.ensures.value
    ∙ ap (λ items. Some items) (sym (listed_view c.in-Some.items.now.items))
    ∙ ap (option_map listed) c.in-Some.ensures
