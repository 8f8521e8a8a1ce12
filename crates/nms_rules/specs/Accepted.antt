-- When a certificate shows that a plan is optimal: the plan is lawful and fills all that can be filled. For each price
-- that the plan could trade at, a cut says why no plan that trades there, and at no worse price, is better. This
-- product's own rule.
use Rattle.std.specs.Prelude.{◌≡◌, true, List, All, AllPairs, Any}
use Rattle.nms_quote.specs.Terms.{Terms}
use Rattle.nms_quote.specs.declared.certificate.Cut.{Cut}
use Rattle.nms_quote.specs.declared.plan.Plan.{Plan}
use Rattle.nms_board.specs.View.{Seen}
use Rattle.nms_fee_book.specs.Fees.{Charges}
use Rattle.nms_rules.specs.Assignment.{fillable}
use Rattle.nms_rules.specs.Cutoff.{KindHolds}
use Rattle.nms_rules.specs.Faultless.{IsFaultless}
use Rattle.nms_rules.specs.Usable.{is_better, rank_of, usable}

pub record IsAccepted (seen : Seen) (asked : Terms) (fees : Charges) (plan : Plan) (cuts : List Cut) : Type 0 where
  pub faultless : IsFaultless seen asked fees plan
  -- it fills all that can be filled
  pub full : plan.filled ≡ fillable (usable seen asked fees) asked.shares
  -- each usable price has a cut, each cut is at a usable price, and each is at a better price than all after it
  pub each_price : All (λ row. Any (λ cut. cut.price ≡ row.price) cuts) (usable seen asked fees)
  pub no_other : All (λ cut. Any (λ row. row.price ≡ cut.price) (usable seen asked fees)) cuts
  pub best_first : AllPairs (λ cut later. is_better asked.side cut.price later.price ≡ true) cuts
  pub holds : All (λ cut. KindHolds (usable seen asked fees) (fillable (usable seen asked fees) asked.shares) plan.cost
      (rank_of asked.side cut.price) cut.kind) cuts
