-- `gather`: what holds in each turn of its loop: there is room for all answers, the orders so far have theirs, and what is left
-- of each desk's answers its other orders.
use Rattle.std.proofs.Common.{◌≡◌, ◌≤◌, length, take, drop}
use Rattle.std.specs.Vec.{vec_capacity, vec_len}
use Rattle.std.specs.List.{AllByRecursion, AllZip, enumerate_from}
use Rattle.nms_live.specs.Answering.{IsFor, IsSound, numbered}
use Rattle.nms_live.specs.Rows.{AreLeft, IsLast}
use Rattle.nms_live.proofs.gathering.gather.Given as goal

abbrev pub invariant-loop-wanted : goal.invariant-loop-wanted
invariant-loop-wanted l = record {
  count : length l.rows.items ≡ length l.fn.rows.items;
  put : vec_len l.answers ≡ l.wanted-index;
  room : length l.orders ≤ vec_capacity l.answers;
  closing_put : vec_len l.closing ≡ l.wanted-index;
  closing_room : length l.orders ≤ vec_capacity l.closing;
  left : AreLeft (λ row. row.answers.items) (IsSound l.setup l.tape l.published)
      (enumerate_from l.wanted-index (drop l.wanted-index l.orders))
      l.answers.items l.fn.rows.items l.rows.items;
  closing_left : AreLeft (λ row. row.closing.items) (IsLast l.setup l.tape l.published)
      (enumerate_from l.wanted-index (drop l.wanted-index l.orders))
      l.closing.items l.fn.rows.items l.rows.items;
  matched : AllZip IsFor (numbered (take l.wanted-index l.orders)) l.answers.items;
  closing_matched : AllZip IsFor (numbered (take l.wanted-index l.orders)) l.closing.items;
  sound : AllByRecursion (IsSound l.setup l.tape l.published) l.answers.items;
  last : AllByRecursion (IsLast l.setup l.tape l.published) l.closing.items;
}
