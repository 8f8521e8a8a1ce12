-- `wrong_cut`: that there is one, and clauses `wrong` and `first`, by `some_position` and `found-at`.
use Rattle.std.proofs.Common.{Some, ap, sym, ◌∙◌}
use Rattle.nms_quote.specs.declared.certificate.Cut.{Cut}
use Rattle.nms_rules.specs.Usable.{rank_of}
use Rattle.nms_cert.specs.Doubts.{is_wrong_kind, some_is_wrong_kind}
use Rattle.nms_verdicts.proofs.FindLemmas.{found-at, some_position}
use Rattle.nms_verdicts.proofs.plan_places.doubt_places.wrong_cut.Goals as goal

pub unreachable-requires : goal.unreachable-requires
unfolding some_is_wrong_kind
unreachable-requires c = some_position _ c.args.cuts.now c.requires.wrong (sym c.wrong_kind_in.ensures ∙ c.in-None.is)

pub returns-clause-wrong : goal.returns-clause-wrong
returns-clause-wrong c = found-at (λ (cut : Cut). is_wrong_kind c.args.rows.now c.args.most (rank_of c.args.side cut.price) cut.kind)
    c.args.cuts.now c.in-Some.number c.cut_place.result.cut (sym c.wrong_kind_in.ensures ∙ c.in-Some.is)
    (c.cut_place.ensures.own c.cut_place.result.cut)

pub returns-clause-first : goal.returns-clause-first
returns-clause-first c = (sym c.wrong_kind_in.ensures ∙ c.in-Some.is) ∙ ap Some (sym c.cut_place.ensures.number)
