-- `row_without_cut`: all that it promises.
use Rattle.std.proofs.Common.{◌∙◌, rules, tests}
use Rattle.std.specs.Prelude.{not}
use Rattle.std.proofs.lemmas.Iterator.{YieldsList-from_slice}
use Rattle.std.proofs.lemmas.Iterator.Search.{find_from_yields_List}
use Rattle.nms_rules.specs.Usable.{Usable}
use Rattle.nms_cert.specs.Doubts.{has_cut}
use Rattle.nms_verdicts.proofs.plan_places.cut_tests.row_without_cut.Goals as goal

pub returns : goal.returns
returns c =
    c.copied.ensures ∙ find_from_yields_List (λ (row : Usable). not (has_cut c.args.cuts.now row.price)) _ _ _ c.find.ensures.ran
    (YieldsList-from_slice c.args.rows.now cc) (λ x b q k. search (rules, tests))
