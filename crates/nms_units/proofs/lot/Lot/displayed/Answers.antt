-- `Lot::displayed`: its clauses, by `lots_by_reciprocal`.
use Rattle.std.proofs.Common.{◌≡◌, ◌+◌, ◌*◌, ◌/◌, ◌≤◌, arith, ap}
use Rattle.std.proofs.lemmas.Grind.{common_steps}
use Rattle.std.proofs.Math.Nat.{div-mul-le_self}
use Rattle.nms_units.specs.Lot.{displayed_size, reciprocal_of}
use Rattle.nms_units.proofs.LotLemmas.{lots_by_reciprocal}
use Rattle.nms_units.proofs.lot.Lot.displayed.Goals as goal

size : goal.returns-clause-size
size c =
    let few : c.args.shares ≤ 999999999 = omega (arith, c.get.ensures.number, c.get.ensures.high) in
    let lots : reciprocal_of c.self.inside.shares * (c.args.shares + 1) / 18446744073709551616 ≡ c.args.shares / c.self.inside.shares =
    lots_by_reciprocal c.self.inside.shares c.args.shares c.self.invariant.0 c.self.invariant.1 few in
    rw (c.from.ensures, c.self.invariant.2, c.from-more.ensures, c.get.ensures.number, c.from-2.ensures, lots)
    (ap (λ lot. displayed_size lot c.args.shares) c.self.view_is)

pub returns-clause-size : goal.returns-clause-size
returns-clause-size c = size c

pub returns-clause-within : goal.returns-clause-within
returns-clause-within c = rw (size c) (div-mul-le_self c.args.shares c.args.self)

pub overflow_mul-result : goal.overflow_mul-result
overflow_mul-result c = omega (arith, returns-clause-within c, c.get.ensures.number, c.get.ensures.high)

-- ---- goals that `grind` closes; the search that is tried before it takes longer

pub overflow_cast-lots : goal.overflow_cast-lots
overflow_cast-lots c = grind (arith, common_steps)
