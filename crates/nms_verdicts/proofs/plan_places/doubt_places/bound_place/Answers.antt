-- `bound_place`: that the cut has a marginal in its range, and all that it promises, by `found-at` (it is the first that fails).
use Rattle.std.proofs.Common.{ℕ, ◌≡◌, Bool, get_or, refl, ap, ◌∙◌}
use Rattle.std.proofs.lemmas.List.Quantifiers.{position-Some}
use Rattle.nms_quote.specs.declared.certificate.Cut.{Cut}
use Rattle.nms_rules.specs.Usable.{rank_of}
use Rattle.nms_cert.specs.Doubts.{fails_bound, is_out_of_range, some_is_out_of_range}
use Rattle.nms_verdicts.proofs.CutLemmas.{fails-cost, fails-marginal, none-at}
use Rattle.nms_verdicts.proofs.FindLemmas.{found-at}
use Rattle.nms_verdicts.proofs.plan_places.doubt_places.bound_place.Goals as goal

pub bound_at-bound-requires-clause-marginal : goal.bound_at-bound-requires-clause-marginal
bound_at-bound-requires-clause-marginal c =
    let cut = c.cut_place-cut.result.cut in
    let is : cut ≡ get_or c.args.cuts.now c.args.number cut = c.cut_place-cut.ensures.own cut
    ∙ ap (λ (k : ℕ). get_or c.args.cuts.now k cut) c.from.ensures in
    fails-marginal c.args.rows.now c.args.most c.args.cost (rank_of c.args.side cut.price) cut.kind
    (found-at (λ (it : Cut). fails_bound c.args.rows.now c.args.most c.args.cost (rank_of c.args.side it.price) it.kind) c.args.cuts.now
    c.args.number cut c.requires.first is)

pub bound_at-bound-requires-clause-range : goal.bound_at-bound-requires-clause-range
unfolding some_is_out_of_range
bound_at-bound-requires-clause-range c =
    let cut = c.cut_place-cut.result.cut in
    let is : cut ≡ get_or c.args.cuts.now c.args.number cut = c.cut_place-cut.ensures.own cut
    ∙ ap (λ (k : ℕ). get_or c.args.cuts.now k cut) c.from.ensures in
    let fails : Cut → Bool = λ it. fails_bound c.args.rows.now c.args.most c.args.cost (rank_of c.args.side it.price) it.kind in
    none-at (λ (it : Cut). is_out_of_range it.kind) c.args.cuts.now c.args.number cut c.requires.range
    (position-Some fails c.args.cuts.now c.args.number cut c.requires.first).0 is

pub returns : goal.returns
returns c =
    let cut = c.cut_place-cut.result.cut in
    let is : cut ≡ get_or c.args.cuts.now c.args.number cut = c.cut_place-cut.ensures.own cut
    ∙ ap (λ (k : ℕ). get_or c.args.cuts.now k cut) c.from.ensures in
    let fails : Cut → Bool = λ it. fails_bound c.args.rows.now c.args.most c.args.cost (rank_of c.args.side it.price) it.kind in (
      c.cut_place-cut.ensures.place,
      c.cut_place-cut.ensures.number ∙ c.from.ensures,
      refl,
      c.bound_at-bound.ensures,
      fails-cost c.args.rows.now c.args.most c.args.cost (rank_of c.args.side cut.price) cut.kind c.bound_at-bound.result
          (found-at fails c.args.cuts.now c.args.number cut c.requires.first is) c.bound_at-bound.ensures,
    )
