-- `extra_place`: all that it promises, by `found-at`, and that the cuts are out of order if each is at a usable price.
use Rattle.std.proofs.Common.{Some, ap, sym, ◌∙◌}
use Rattle.std.specs.Prelude.{not}
use Rattle.nms_quote.specs.declared.certificate.Cut.{Cut}
use Rattle.nms_cert.specs.Doubts.{has_row, is_out_of_order, some_is_extra}
use Rattle.nms_verdicts.proofs.CutLemmas.{extra-disordered}
use Rattle.nms_verdicts.proofs.FindLemmas.{found-at, none_any, not-true, or-false}
use Rattle.nms_verdicts.proofs.plan_places.doubt_places.extra_place.Goals as goal

pub returns-in-Some : goal.returns-in-Some
returns-in-Some c =
    let found = sym c.cut_without_row.ensures ∙ c.in-Some.is in (
      c.cut_place.ensures.place,
      not-true _ (found-at (λ (cut : Cut). not (has_row c.args.rows.now cut.price)) c.args.cuts.now c.in-Some.number c.cut_place.result.cut
          found (c.cut_place.ensures.own c.cut_place.result.cut)),
      found ∙ ap Some (sym c.cut_place.ensures.number),
    )

pub returns-in-None : goal.returns-in-None
unfolding some_is_extra
returns-in-None c = extra-disordered c.args.side c.args.rows.now c.args.cuts.now c.disordered.result c.disordered.ensures
    (none_any _ c.args.cuts.now (sym c.cut_without_row.ensures ∙ c.in-None.is))

pub disordered-requires-clause-order : goal.disordered-requires-clause-order
unfolding some_is_extra
disordered-requires-clause-order c = or-false (some_is_extra c.args.rows.now c.args.cuts.now) (is_out_of_order c.args.side c.args.cuts.now)
    (none_any _ c.args.cuts.now (sym c.cut_without_row.ensures ∙ c.in-None.is)) c.requires.extra
