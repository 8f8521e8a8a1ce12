-- put_cuts: one more cut, and the better of two choices, by what tried and cheaper say (clauses cuts, best, range).
use Rattle.std.proofs.Common.{◌≡◌, ◌≤◌, refl, List, [], ◌∷◌, ◌++◌, All, None, length, map, ap, sym, ◌∙◌, subst, arith}
use Rattle.std.proofs.lemmas.Grind.{common_steps}
use Rattle.std.proofs.lemmas.List.{length_push}
use Rattle.std.proofs.lemmas.List.Elements.{All-head, All-push, All-tail}
use Rattle.std.proofs.Math.Seq.{append_snoc}
use Rattle.nms_quote.specs.declared.certificate.Cut.{Cut}
use Rattle.nms_rules.specs.Usable.{Usable}
use Rattle.nms_sweep.specs.Choice.{IsInRange, chosen, cut_by}
use Rattle.nms_sweep.specs.Cutoffs.{IsCutoffOf}
use Rattle.nms_sweep.specs.Passed.{coming}
use Rattle.nms_sweep.specs.declared.cutoffs.Cutoff.{Cutoff}
use Rattle.nms_sweep.proofs.TakenLemmas.{came_as, cut_with, none_came_as}
use Rattle.nms_sweep.proofs.cutting.put_cuts.Goals as goal

pub returns-in_default-clause-best : goal.returns-in_default-clause-best
unfolding chosen
returns-in_default-clause-best g c =
    let side = c.args.side in
    let by_cost = c.args.by_cost.now in
    let most = c.args.most in
    let rows : List Usable = c.args.rows.now in
    let none : coming rows c.loop-cutoff.passed ≡ [] =
    none_came_as (coming rows c.loop-cutoff.passed) c.next_of-next.result.0 (coming rows c.next_of-next.result.1) c.in_default.is
    c.next_of-next.ensures.next in
    sym {a = chosen side by_cost most None (map (cut_by side by_cost most) (coming rows c.args.passed))} (c.loop-cutoff.invariant.best
    ∙ ap (λ (some : List Cutoff). chosen side by_cost most c.loop-cutoff.best (map (cut_by side by_cost most) some)) none)

pub loop-cutoff-preserved : goal.loop-cutoff-preserved
unfolding chosen
loop-cutoff-preserved g c =
    let side = c.args.side in
    let by_cost = c.args.by_cost.now in
    let most = c.args.most in
    let cutoff : Cutoff = c.in-Some.cutoff in
    let rows : List Usable = c.args.rows.now in
    let before : List Cutoff = coming rows c.loop-cutoff.passed in
    let later : List Cutoff = coming rows c.next_of-next.result.1 in
    let is = c.loop-cutoff.invariant in
    let first : before ≡ cutoff ∷ later =
    came_as before c.next_of-next.result.0 cutoff later c.in-Some.is c.next_of-next.ensures.next in
    let step : chosen side by_cost most c.loop-cutoff.best (cut_by side by_cost most cutoff ∷ map (cut_by side by_cost most) later)
    ≡ chosen side by_cost most c.cheaper-best.result (map (cut_by side by_cost most) later) =
    rw (c.cheaper-best.ensures, c.tried-kind.ensures.offer, c.tried-kind.ensures.kind) refl in
    let items : List Cut = g.W.PlanRoom.cuts c.loop-cutoff.out in
    let cut : Cut = cut_by side by_cost most cutoff in
    let same : cut_with cutoff.price c.tried-kind.result.0 ≡ cut = ap (cut_with cutoff.price) c.tried-kind.ensures.kind in
    let pushed : g.W.PlanRoom.cuts c.put_cut.new.self ≡ items ++ cut ∷ [] = c.put_cut.ensures.cuts ∙ ap (λ (one : Cut). items ++ one ∷ []) same in
    record {
      filled = c.put_cut.ensures.filled;
      legs = c.put_cut.ensures.legs ∙ is.legs;
      passed = c.next_of-next.ensures.passed;
      cuts = is.cuts ∙ ap (λ (some : List Cutoff). items ++ map (cut_by side by_cost most) some) first
          ∙ sym (append_snoc items cut (map (cut_by side by_cost most) later))
          ∙ ap (λ (some : List Cut). some ++ map (cut_by side by_cost most) later) (sym pushed);
      best = is.best ∙ ap (λ (some : List Cutoff). chosen side by_cost most c.loop-cutoff.best (map (cut_by side by_cost most) some)) first
          ∙ step;
      range = subst (All (λ (one : Cut). IsInRange one.kind)) (sym pushed)
          (All-push (λ (one : Cut). IsInRange one.kind) items cut is.range
          (subst IsInRange c.tried-kind.ensures.kind c.tried-kind.ensures.range));
      sums = All-tail (λ (one : Cutoff). one.swept ≤ most → IsCutoffOf side by_cost one) cutoff later
          (subst (All (λ (one : Cutoff). one.swept ≤ most → IsCutoffOf side by_cost one)) first is.sums);
      room = omega (arith, is.room, ap length first, ap length pushed, length_push items cut);
    }

pub tried-kind-requires-clause-sums : goal.tried-kind-requires-clause-sums
tried-kind-requires-clause-sums g c =
    let rows : List Usable = c.args.rows.now in
    let cutoff : Cutoff = c.in-Some.cutoff in
    let before : List Cutoff = coming rows c.loop-cutoff.passed in
    let later : List Cutoff = coming rows c.next_of-next.result.1 in
    let first : before ≡ cutoff ∷ later =
    came_as before c.next_of-next.result.0 cutoff later c.in-Some.is c.next_of-next.ensures.next in
    All-head (λ (one : Cutoff). one.swept ≤ c.args.most → IsCutoffOf c.args.side c.args.by_cost.now one) cutoff later
    (subst (All (λ (one : Cutoff). one.swept ≤ c.args.most → IsCutoffOf c.args.side c.args.by_cost.now one)) first c.loop-cutoff.invariant.sums)

-- ---- goals that `grind` closes; the search that is tried before it takes longer

pub loop-cutoff-smaller : goal.loop-cutoff-smaller
loop-cutoff-smaller g c = grind (arith, common_steps)

pub put_cut-requires-clause-room : goal.put_cut-requires-clause-room
put_cut-requires-clause-room g c = grind (arith, common_steps)
