-- `worst_of`: the turns of its loop, by `worse_yet` and `not_itself`.
use Rattle.std.proofs.Common.{◌≡◌, false, sym, ◌∙◌}
use Rattle.nms_quote.specs.declared.plan.Leg.{Leg}
use Rattle.nms_rules.specs.Usable.{is_better}
use Rattle.nms_cert.proofs.FindLemmas.{every_more}
use Rattle.nms_cert.proofs.QuickLemmas.{not_itself, worse_yet}
use Rattle.nms_cert.proofs.board_confirming.worst_of.Goals as goal
use Rattle.nms_cert.proofs.board_confirming.worst_of.Goals.{then-is_better, else-is_better}

pub loop-leg-preserved : goal.loop-leg-preserved
loop-leg-preserved c =
    let side = c.args.side in
    let legs = c.args.legs.now in
    let leg = c.leg-item.result in
    elim c.if-is_better.branch [
      | then-is_better w ↦
          rw w.worst-is
          (every_more (λ (one : Leg). is_better side leg.price one.price ≡ false) legs c.loop-leg.leg-index leg c.loop-leg-test.true
          c.leg-item.is
          (λ k d below. worse_yet side c.loop-leg.worst _ leg.price (c.loop-leg.invariant k d below)
          (sym c.is_better.ensures ∙ w.if-is_better.true))
          (not_itself side leg.price))
      | else-is_better w ↦
          rw w.worst-is
          (every_more (λ (one : Leg). is_better side c.loop-leg.worst one.price ≡ false) legs c.loop-leg.leg-index leg c.loop-leg-test.true
          c.leg-item.is c.loop-leg.invariant (sym c.is_better.ensures ∙ w.if-is_better.false))
    ]
