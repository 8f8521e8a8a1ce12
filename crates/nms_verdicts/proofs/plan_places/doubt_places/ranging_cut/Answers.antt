-- `ranging_cut`: that there is one, and clauses `out` and `first`, by `some_position` and `found-at`.
use Rattle.std.proofs.Common.{Some, ap, sym, ◌∙◌}
use Rattle.nms_quote.specs.declared.certificate.Cut.{Cut}
use Rattle.nms_cert.specs.Doubts.{is_out_of_range, some_is_out_of_range}
use Rattle.nms_verdicts.proofs.FindLemmas.{found-at, some_position}
use Rattle.nms_verdicts.proofs.plan_places.doubt_places.ranging_cut.Goals as goal

pub unreachable-requires : goal.unreachable-requires
unfolding some_is_out_of_range
unreachable-requires c = some_position _ c.args.cuts.now c.requires.some (sym c.out_of_range_in.ensures ∙ c.in-None.is)

pub returns-clause-out : goal.returns-clause-out
returns-clause-out c = found-at (λ (cut : Cut). is_out_of_range cut.kind) c.args.cuts.now c.in-Some.number c.cut_place.result.cut
    (sym c.out_of_range_in.ensures ∙ c.in-Some.is) (c.cut_place.ensures.own c.cut_place.result.cut)

pub returns-clause-first : goal.returns-clause-first
returns-clause-first c = (sym c.out_of_range_in.ensures ∙ c.in-Some.is) ∙ ap Some (sym c.cut_place.ensures.number)
