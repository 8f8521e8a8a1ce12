-- `missing_row`: that there is one, by `find-none`, and clause `lacks`, by `find-is`.
use Rattle.std.proofs.Common.{sym, ◌∙◌}
use Rattle.std.specs.Prelude.{not}
use Rattle.std.proofs.lemmas.Bool.{false≢true}
use Rattle.nms_rules.specs.Usable.{Usable}
use Rattle.nms_cert.specs.Doubts.{has_cut, some_lacks_cut}
use Rattle.nms_verdicts.proofs.FindLemmas.{find-is, find-none, not-true}
use Rattle.nms_verdicts.proofs.plan_places.doubt_places.missing_row.Goals as goal

pub unreachable-requires : goal.unreachable-requires
unfolding some_lacks_cut
unreachable-requires c = false≢true (sym (find-none (λ (row : Usable). not (has_cut c.args.cuts.now row.price)) c.args.rows.now
    (sym c.row_without_cut.ensures ∙ c.in-None.is)) ∙ c.requires)

pub returns-clause-first : goal.returns-clause-first
returns-clause-first c = sym c.row_without_cut.ensures ∙ c.in-Some.is

pub returns-clause-lacks : goal.returns-clause-lacks
returns-clause-lacks c = not-true _ (find-is (λ (row : Usable). not (has_cut c.args.cuts.now row.price)) c.args.rows.now c.in-Some.row
    (sym c.row_without_cut.ensures ∙ c.in-Some.is)).1
