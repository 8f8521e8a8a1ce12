-- `History::close`: the call of `compare_exchange`, by `closes_moves`.
use Rattle.std.proofs.Common.{arith, ap, sym, ◌∙◌}
use Rattle.std.proofs.lemmas.Grind.{common_steps}
use Rattle.nms_versions.proofs.HistoryLemmas.{closes_moves}
use Rattle.nms_versions.proofs.history.History.close.Goals as goal

pub compare_exchange-requires : goal.compare_exchange-requires
compare_exchange-requires c =
    let h = c.self.invariant.0 in
    let pen = c.self.invariant.3 (ap (λ s. s.is_open) c.self.view_is ∙ c.requires.open) in
    let offer = c.plain-offer.ensures in (
      ap (λ w. w.tracked) h,
      sym (ap (λ w. w.book) h),
      pen.0 ∙ sym (ap (λ w. w.book) h),
      offer.0,
      rw (ap (λ w. w.key) h, pen.1, offer.1, offer.3) (closes_moves c.self.inside.seen.log _ _ c.requires.some),
    )

-- ---- goals that `grind` closes; the search that is tried before it takes longer

pub invariant_of-self : goal.invariant_of-self
invariant_of-self c = grind (arith, common_steps)
