-- `apply_all`: the turns of its loop.
use Rattle.std.proofs.Common.{◌++◌, ◌∷◌, [], List, take, arith, ap, sym, subst, ◌∙◌, append_assoc}
use Rattle.std.proofs.lemmas.Grind.{common_steps}
use Rattle.std.proofs.lemmas.List.{map-append, take_more}
use Rattle.nms_quote.specs.Tape.{Tape}
use Rattle.nms_quote.specs.declared.marked.Marked.{Marked}
use Rattle.nms_board.specs.Cells.{Board, StandsFor}
use Rattle.nms_flow.specs.Run.{changes_in}
use Rattle.nms_flow.proofs.flow.apply_all.Goals as goal

pub loop-marked-preserved : goal.loop-marked-preserved
loop-marked-preserved c =
    let before : List Marked = take c.loop-marked.marked-index c.args.changes.now in
    let more = take_more c.args.changes.now c.loop-marked.marked-index c.marked-item.result c.loop-marked-test.true in
    let longer = map-append (λ (m : Marked). m.change) before (c.marked-item.result ∷ []) in
    record {
      stands = λ tape h. subst (StandsFor c.apply.new.self)
          (append_assoc tape (changes_in before) (c.marked-item.result.change ∷ [])
          ∙ ap (λ (t : Tape). tape ++ t) (sym longer ∙ ap changes_in (ap (λ (m : Marked). before ++ m ∷ []) c.marked-item.is ∙ sym more)))
          (c.apply.ensures.stands _ (c.loop-marked.invariant.stands tape h));
      sizes = ap (λ (b : Board). b.sizes) c.apply.ensures.after ∙ c.loop-marked.invariant.sizes;
      applied = omega (arith, ap (λ (b : Board). b.applied) c.apply.ensures.after, c.loop-marked.invariant.applied);
    }

-- ---- goals that `grind` closes; the search that is tried before it takes longer

pub returns-clause-stands : goal.returns-clause-stands
returns-clause-stands c = grind (arith, common_steps)
