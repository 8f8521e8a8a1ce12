-- `fault_among`: what holds in each turn of its loop: `first`, `none` and `some`.
use Rattle.std.proofs.Common.{ℕ, ◌≡◌, ◌<◌, ◌⊎◌, None, drop}
use Rattle.std.specs.Prelude.{slice_index_or}
use Rattle.nms_live.specs.Faults.{IsNoLineIfAny, first_among}
use Rattle.nms_live.specs.declared.desk_work.Desked.{Desked}
use Rattle.nms_live.proofs.desk_workers.fault_among.Given as goal

abbrev pub invariant-loop-desk : goal.invariant-loop-desk
invariant-loop-desk l = record {
  first : first_among (λ d. d.stop) l.first (drop l.desk-index l.desks) ≡ first_among (λ d. d.stop) l.fn.fault l.desks;
  none : l.first ≡ None → (l.fn.fault ≡ None) × ((k : ℕ) (d : Desked) → k < l.desk-index → (slice_index_or l.desks k d).stop ≡ None);
  some : (l.first ≡ l.fn.fault) ⊎ IsNoLineIfAny l.first;
}
