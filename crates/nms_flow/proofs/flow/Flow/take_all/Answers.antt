-- `Flow::take_all`: clause `run`, by what the takings one after another come to.
use Rattle.std.proofs.Common.{◌≡◌, ◌+◌, arith, subst, sym}
use Rattle.std.proofs.lemmas.Grind.{common_steps}
use Rattle.nms_flow.specs.Flow.{State}
use Rattle.nms_flow.proofs.TakeLemmas.{takes_until_empty, takes_until_full, takes_until_wanting}
use Rattle.nms_flow.proofs.flow.Flow.take_all.Goals as goal

pub returns-in_default-clause-run : goal.returns-in_default-clause-run
returns-in_default-clause-run c =
    let taken = subst (λ (s : State). c.taken.result ≡ s.board.applied + s.pending) (sym c.self.view_is) c.taken.ensures.count in
    rw (← c.self.view_is) (takes_until_wanting _ _ c.make_room.ensures.items
    (λ e. absurd (omega (arith, e, c.len.ensures, c.min-more.ensures, c.in_default.ensures.full, c.self.invariant.room)))
    (λ e. absurd (omega (arith, e, taken, c.min-more.ensures, c.in_default.ensures.full, c.self.invariant.room))))

pub returns-then-more-queued-clause-run : goal.returns-then-more-queued-clause-run
returns-then-more-queued-clause-run c =
    let taken = subst (λ (s : State). c.taken.result ≡ s.board.applied + s.pending) (sym c.self.view_is) c.taken.ensures.count in
    rw (← c.self.view_is) (takes_until_empty _ c.min-more.result _ c.make_room.ensures.items
    (omega (arith, c.if-more-queued.true, c.len.ensures, c.self.invariant.pending))
    (omega (arith, c.min-more.ensures, taken, c.self.invariant.taken)))

pub returns-clause-run : goal.returns-clause-run
returns-clause-run c =
    let taken = subst (λ (s : State). c.taken.result ≡ s.board.applied + s.pending) (sym c.self.view_is) c.taken.ensures.count in
    rw (← c.self.view_is) (takes_until_full _ c.min-more.result _ c.make_room.ensures.items
    (omega (arith, c.min-more.ensures, c.len.ensures, c.self.invariant.pending))
    (λ e. c.if-more-queued.false (omega (arith, e, c.len.ensures, c.self.invariant.pending)))
    (omega (arith, c.min-more.ensures, c.if-more-queued.false, taken, c.self.invariant.taken)))

-- ---- goals that `grind` closes; the search that is tried before it takes longer

pub returns-clause-sends_nothing : goal.returns-clause-sends_nothing
returns-clause-sends_nothing c = grind (arith, common_steps)

pub overflow_sub-self-inside : goal.overflow_sub-self-inside
overflow_sub-self-inside c = grind (arith, common_steps)

pub returns-then-more-queued-clause-sends_nothing : goal.returns-then-more-queued-clause-sends_nothing
returns-then-more-queued-clause-sends_nothing c = grind (arith, common_steps)

pub returns-in_default-clause-sends_nothing : goal.returns-in_default-clause-sends_nothing
returns-in_default-clause-sends_nothing c = grind (arith, common_steps)

pub returns-then-more-queued-clause-full : goal.returns-then-more-queued-clause-full
returns-then-more-queued-clause-full c = grind (arith, common_steps)

pub overflow_add-most : goal.overflow_add-most
overflow_add-most c = grind (arith, common_steps)

pub returns-then-more-queued-clause-unchanged : goal.returns-then-more-queued-clause-unchanged
returns-then-more-queued-clause-unchanged c = grind (arith, common_steps)

pub returns-in_default-clause-full : goal.returns-in_default-clause-full
returns-in_default-clause-full c = grind (arith, common_steps)

pub returns-then-more-queued-clause-room : goal.returns-then-more-queued-clause-room
returns-then-more-queued-clause-room c = grind (arith, common_steps)

pub overflow_add-most-2 : goal.overflow_add-most-2
overflow_add-most-2 c = grind (arith, common_steps)

pub make_room-requires : goal.make_room-requires
make_room-requires c = grind (arith, common_steps)

pub returns-clause-room : goal.returns-clause-room
returns-clause-room c = grind (arith, common_steps)

pub overflow_add-self : goal.overflow_add-self
overflow_add-self c = grind (arith, common_steps)

pub returns-then-more-queued-clause-empty : goal.returns-then-more-queued-clause-empty
returns-then-more-queued-clause-empty c = grind (arith, common_steps)

pub returns-clause-empty : goal.returns-clause-empty
returns-clause-empty c = grind (arith, common_steps)

pub returns-in_default-clause-unchanged : goal.returns-in_default-clause-unchanged
returns-in_default-clause-unchanged c = grind (arith, common_steps)

pub returns-in_default-clause-empty : goal.returns-in_default-clause-empty
returns-in_default-clause-empty c = grind (arith, common_steps)

pub returns-clause-unchanged : goal.returns-clause-unchanged
returns-clause-unchanged c = grind (arith, common_steps)

pub returns-clause-full : goal.returns-clause-full
returns-clause-full c = grind (arith, common_steps)

pub returns-in_default-clause-room : goal.returns-in_default-clause-room
returns-in_default-clause-room c = grind (arith, common_steps)
