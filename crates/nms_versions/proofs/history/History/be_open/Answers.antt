-- `History::be_open`: the call of `compare_exchange`, by `opens_moves`.
use Rattle.std.proofs.Common.{arith, ap, sym, ◌∙◌}
use Rattle.std.proofs.lemmas.Grind.{common_steps}
use Rattle.nms_versions.proofs.HistoryLemmas.{opens_moves}
use Rattle.nms_versions.proofs.history.History.be_open.Goals as goal

pub compare_exchange-found-requires : goal.compare_exchange-found-requires
compare_exchange-found-requires c =
    let h = c.self.invariant.0 in
    let offer = c.plain-offer.ensures in
    let pen = c.no_pen-pen.ensures in
    let seen = c.again-seen.ensures in (
      ap (λ w. w.tracked) h,
      ap (λ s. s.book) seen ∙ sym (ap (λ w. w.book) h),
      pen.0 ∙ sym (ap (λ w. w.book) h),
      offer.0 ∙ sym (ap (λ s. s.names) seen),
      rw (ap (λ w. w.key) h, ap (λ s. s.log) seen, pen.1, offer.3)
          (opens_moves c.self.inside.seen.log c.self.inside.batches (sym c.self.invariant.1)),
    )

-- ---- goals that `grind` closes; the search that is tried before it takes longer

pub tracked-word-requires : goal.tracked-word-requires
tracked-word-requires c = grind (arith, common_steps)

pub overflow_add-batches : goal.overflow_add-batches
overflow_add-batches c = grind (arith, common_steps)

pub invariant_of-self : goal.invariant_of-self
invariant_of-self c = grind (arith, common_steps)
