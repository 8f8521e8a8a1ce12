-- `answer_orders`: what holds in each turn of its loop: `opening`, `sizes`, `setup` and `so_far`.
use Rattle.std.proofs.Common.{◌≡◌, take}
use Rattle.nms_live.proofs.DeskFacts.{IsSoFar}
use Rattle.nms_live.proofs.desk_work.answer_orders.Given as goal

-- the orders so far were answered
abbrev pub invariant-loop-place : goal.invariant-loop-place
invariant-loop-place g l = record {
  opening : l.desk.opening ≡ l.fn.desk.opening;
  sizes : l.desk.sizes ≡ l.fn.desk.sizes;
  setup : l.planning.setup.now ≡ l.setup;
  so_far : IsSoFar l.setup (take l.place l.orders) l.fn.desk.known l.desk.known l.answers.items;
}
